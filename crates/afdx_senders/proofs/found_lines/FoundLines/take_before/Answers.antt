use Rattle.std.proofs.Common.{sym, ◌∙◌}
use Rattle.afdx_senders.proofs.OrderLemmas.{held_popped, none_before}
use Rattle.afdx_senders.proofs.found_lines.FoundLines.take_before.Goals as goal

pub invariant_of-self : goal.invariant_of-self
invariant_of-self c =
    held_popped _ c.self.inside.heap.data.items c.pop.new.self.data.items c.pop.result c.self.invariant
    c.pop.ensures.permutation c.pop.ensures.heap_order c.pop.ensures.unchanged

pub returns-else-is_before-clause-none : goal.returns-else-is_before-clause-none
returns-else-is_before-clause-none c =
    rw (← c.self.view_is) (none_before c.args.before c.in-Some.first.now c.self.inside.heap.data.items
    c.self.invariant.1 (c.in-Some.ensures.greatest c.self.invariant.0) (sym c.is_before.ensures ∙ c.if-is_before.false))
