use Rattle.std.proofs.Common.{◌++◌, take}
use Rattle.afdx_conform.proofs.ApartLemmas.{AreBelow, AreKeptOf}
use Rattle.afdx_conform.proofs.states.thinned_in_order.Given as goal

abbrev pub invariant-loop-state : goal.invariant-loop-state
invariant-loop-state l = AreKeptOf (take l.state-index l.held) l.held (l.done.items ++ l.few.items)
    × AreBelow l.top l.done.items
