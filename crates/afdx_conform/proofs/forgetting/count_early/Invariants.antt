use Rattle.std.proofs.Common.{◌≡◌, ℕ, ◌<◌, ◌≤◌, get_or}
use Rattle.afdx_conform.specs.Holding.{IsTooEarly}
use Rattle.afdx_conform.specs.declared.arrived.Arrived.{Arrived}
use Rattle.afdx_conform.proofs.forgetting.count_early.Given as goal

abbrev pub invariant-loop-place : goal.invariant-loop-place
invariant-loop-place l = (k : ℕ) (a : Arrived) → l.from ≤ k → k < l.place → a ≡ get_or l.arrivals k a
    → IsTooEarly l.limits a l.frame
