-- What a switch knows of an arrival once it has judged the frame's shape.
use Rattle.std.specs.Prelude.{◌≡◌, ℕ, true, None, Some, slice_get}
use Rattle.afdx_config.specs.Rows.{Rows}
use Rattle.afdx_police.specs.Arrival.{Arrival, names}
use Rattle.afdx_police.specs.Shape.{fault_of}
use Rattle.afdx_police.specs.declared.shape.Reason.{Reason}
use Rattle.afdx_law_bounds.specs.Outputs.{Row}
use Rattle.afdx_switch.specs.Lines.{IsLine, IsNamedAt}
use Rattle.afdx_switch.specs.Switching.{SwitchHistory}
use Rattle.afdx_switch.specs.Tables.{rows_of}
use Rattle.afdx_switch.specs.Verdicts.{shape_fault}
use Rattle.afdx_switch.specs.declared.line.Line.{Line}
use Rattle.afdx_switch.specs.declared.switch_state.SwitchState.{SwitchState}

-- the row that the arrival names stands at this place, the switch's line there is the one that the
-- link's own arrivals leave, and nothing is wrong in the frame's shape
pub record Found (t : Rows) (x : Arrival) (w : SwitchState) (h : SwitchHistory)
    (place : ℕ) : Type 0 where
  pub named : IsNamedAt (rows_of t) x.bytes place
  pub line : Line
  pub stands : slice_get w.lines.items place ≡ Some line
  pub is : IsLine x.side h.arrivals named.row line
  pub sound : fault_of (Some named.row.rule) x.port x.bytes ≡ None

-- the frame's shape has this fault first, by whatever row the arrival names
pub record IsFaulted (t : Rows) (x : Arrival) (reason : Reason) : Type 0 where
  pub is : shape_fault t x ≡ Some reason
  pub named : (j : ℕ) (r : Row) →
      slice_get (rows_of t) j ≡ Some r →
      names r.rule.vl x.bytes ≡ true →
      fault_of (Some r.rule) x.port x.bytes ≡ Some reason
