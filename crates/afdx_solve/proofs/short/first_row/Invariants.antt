use Rattle.std.proofs.Common.{◌≡◌, Some}
use Rattle.afdx_config.specs.AtSwitch.{tables_at}
use Rattle.afdx_config.specs.Rows.{Rows}
use Rattle.afdx_solve.specs.Short.{first_of, short_place}
use Rattle.afdx_solve.proofs.short.first_row.Given as goal

abbrev pub invariant-loop-i : goal.invariant-loop-i
invariant-loop-i l = (t : Rows) → tables_at l.switches l.switch.0 ≡ Some t
    → l.first ≡ first_of (short_place l.apart l.switches l.switch.0 t) l.i
