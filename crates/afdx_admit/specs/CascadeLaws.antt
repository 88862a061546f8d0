-- What is true of the admission of a cascade.
use Rattle.std.specs.Prelude.{◌≡◌, ◌↔◌, ℕ, true, List, Some, None, is_some}
use Rattle.afdx_config.specs.Rows.{LinkRow}
use Rattle.afdx_config.specs.Switches.{NamedRows, AreSwitches}
use Rattle.afdx_frame.specs.Lines.{first_false}
use Rattle.afdx_admit.specs.AtSwitch.{link_at}
use Rattle.afdx_admit.specs.Cascade.{row_at, latency_within, way_latency, cascade_lines}
use Rattle.afdx_admit.specs.Cascade.{IsCascadeAdmitted}

-- no line is false exactly where the cascade is admitted
abbrev pub CascadeLinesAreAdmission : Type 0
CascadeLinesAreAdmission =
    (switches : List NamedRows) → AreSwitches switches →
    (first_false (cascade_lines switches) ≡ None) ↔ IsCascadeAdmitted switches

-- if some number of rows is enough for the way to a row of a switch, so is the number of switches
abbrev pub WaysAreWhole : Type 0
WaysAreWhole =
    (switches : List NamedRows) → AreSwitches switches →
    (k i : ℕ) (l : LinkRow) → link_at switches k i ≡ Some l →
    (n : ℕ) → is_some (latency_within n switches (row_at k l)) ≡ true →
    is_some (way_latency switches (row_at k l)) ≡ true
