use Rattle.std.proofs.Common.{◌-◌, ◌≤◌, length}
use Rattle.afdx_conform.proofs.InTimeLemmas.{GoUpTo}
use Rattle.afdx_conform.proofs.in_time.go_by_time.Given as goal

abbrev pub invariant-loop-count : goal.invariant-loop-count
invariant-loop-count l = (1 ≤ l.count) × GoUpTo l.arrivals l.count

abbrev pub decreases-loop-count : goal.decreases-loop-count
decreases-loop-count l = length l.arrivals - l.count
