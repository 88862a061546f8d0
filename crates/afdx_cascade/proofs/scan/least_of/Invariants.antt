use Rattle.std.proofs.Common.{◌*◌}
use Rattle.afdx_cascade.proofs.GroupLemmas.{IsLeastSoFar}
use Rattle.afdx_cascade.proofs.scan.least_of.Given as goal

abbrev pub invariant-loop-group : goal.invariant-loop-group
invariant-loop-group l = IsLeastSoFar l.numbers (4 * l.group) l.least

abbrev pub invariant-loop-place : goal.invariant-loop-place
invariant-loop-place l = IsLeastSoFar l.numbers l.place l.least
