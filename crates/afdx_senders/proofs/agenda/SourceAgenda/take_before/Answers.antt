use Rattle.std.proofs.Common.{sym, ◌∙◌}
use Rattle.afdx_senders.proofs.AwaitedLemmas.{heap_popped, none_sooner}
use Rattle.afdx_senders.proofs.agenda.SourceAgenda.take_before.Goals as goal

pub invariant_of-self : goal.invariant_of-self
invariant_of-self c =
    heap_popped _ c.self.inside.heap.data.items c.pop.new.self.data.items c.pop.result c.self.invariant
    c.pop.ensures.heap_order c.pop.ensures.unchanged

pub returns-else-is_before-clause-none : goal.returns-else-is_before-clause-none
returns-else-is_before-clause-none c =
    rw (← c.self.view_is) (none_sooner c.args.before c.in-Some.first.now c.self.inside.heap.data.items
    (c.in-Some.ensures.greatest c.self.invariant) (sym c.is_before.ensures ∙ c.if-is_before.false))
