-- The first of the queue and the first of those that came late are compared.
use Rattle.afdx_input_sources.proofs.HoldingLemmas.{late-first, late-rest, queued-first}
use Rattle.afdx_input_sources.proofs.held.HeldArrivals.take_first.Goals as goal

pub returns-then-is_late_first-clause-first : goal.returns-then-is_late_first-clause-first
returns-then-is_late_first-clause-first c =
    late-first c.self.inside.queue.items c.self.inside.late.data.items c.pop.new.self.data.items c.pop.result
    c.if-is_late_first.ensures c.self.invariant.1 c.pop.ensures.top c.pop.ensures.permutation c.pop.ensures.below_top

pub returns-then-is_late_first-clause-rest : goal.returns-then-is_late_first-clause-rest
returns-then-is_late_first-clause-rest c =
    rw (← c.self.view_is)
    (late-rest c.self.inside.queue.items c.self.inside.late.data.items c.pop.new.self.data.items c.pop.result
    c.pop.ensures.permutation)

pub returns-else-is_late_first-clause-first : goal.returns-else-is_late_first-clause-first
returns-else-is_late_first-clause-first c =
    queued-first c.self.inside.queue.items c.self.inside.late.data.items c.pop_front.new.self.items c.pop_front.result
    c.if-is_late_first.ensures c.self.invariant.0 c.pop_front.ensures.items
