use Rattle.std.proofs.Common.{◌≡◌, ◌++◌, map, take}
use Rattle.afdx_admit.proofs.CascadeFalseLemmas.{own_fault}
use Rattle.afdx_admit.proofs.cascade_found.VecCascadeFaultCascadeFoundAllocError.add_own.Given as goal

abbrev pub invariant-loop-fault : goal.invariant-loop-fault
invariant-loop-fault l =
    l.self.items ≡ l.fn.self.items ++ map (own_fault l.switch.0) (take l.fault-index l.fault-items)
