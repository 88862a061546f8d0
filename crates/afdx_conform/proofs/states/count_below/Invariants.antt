use Rattle.std.proofs.Common.{length, take, ◌-◌, ◌≤◌, ◌<◌}
use Rattle.std.specs.List.{AllByRecursion}
use Rattle.afdx_conform.proofs.states.count_below.Given as goal

abbrev pub invariant-loop-count : goal.invariant-loop-count
invariant-loop-count l = (l.count ≤ length l.held) × AllByRecursion (λ h. h.passed < l.bound) (take l.count l.held)

abbrev pub decreases-loop-count : goal.decreases-loop-count
decreases-loop-count l = length l.held - l.count
