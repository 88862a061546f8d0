use Rattle.std.proofs.Common.{◌≡◌}
use Rattle.afdx_config.specs.ChangedSwitches.{changed_switch}
use Rattle.afdx_solve.proofs.BeginLemmas.{first_rows}
use Rattle.afdx_solve.proofs.beginning.begin_rows.Given as goal

abbrev pub invariant-loop-i : goal.invariant-loop-i
invariant-loop-i l = l.switches ≡ changed_switch l.switch.0 (first_rows l.options l.i) l.fn.switches
