use Rattle.std.proofs.Common.{◌≡◌, ◌-◌, ◌++◌, map, take, drop}
use Rattle.afdx_conform.specs.HeldStates.{past}
use Rattle.afdx_conform.proofs.forgetting.without_first.Given as goal

abbrev pub invariant-loop-place : goal.invariant-loop-place
invariant-loop-place l = l.held.items
    ≡ map (λ h. past (h.passed - l.count) h) (take l.place l.initial.held.items) ++ drop l.place l.initial.held.items
