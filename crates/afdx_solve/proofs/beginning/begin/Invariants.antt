use Rattle.std.proofs.Common.{◌≡◌}
use Rattle.afdx_solve.specs.Raising.{begun_switch}
use Rattle.afdx_solve.proofs.StageLemmas.{changed_first}
use Rattle.afdx_solve.proofs.beginning.begin.Given as goal

abbrev pub invariant-loop-k : goal.invariant-loop-k
invariant-loop-k l = l.switches ≡ changed_first (begun_switch l.options) l.k l.fn.switches
