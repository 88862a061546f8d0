-- What a new switch keeps.
use Rattle.std.specs.Prelude.{◌≡◌, ℕ, ◌+◌, []}
use Rattle.afdx_frame.specs.declared.link.Side.{Side}
use Rattle.afdx_config.specs.Rows.{Rows}
use Rattle.afdx_port.specs.Held as held
use Rattle.afdx_port.specs.History as queue
use Rattle.afdx_port.specs.declared.port_state.PortState.{PortState}
use Rattle.afdx_law_bounds.specs.Outputs.{Row}
use Rattle.afdx_switch.specs.HeldFrames.{HeldFrame, facts}
use Rattle.afdx_switch.specs.Tables.{byte_ns_at, buffer_at}
use Rattle.afdx_switch.specs.Lines.{IsLine}
use Rattle.afdx_switch.specs.Sound.{IsLineSound}
use Rattle.afdx_switch.specs.declared.line.Line.{Line}

-- of the link of a row, before anything came
pub record IsNewLine (r : Row) (line : Line) : Type 0 where
  pub is : (side : Side) → IsLine side [] r line
  pub sound : IsLineSound 0 line

-- of the port at this place, from port 1 on
pub record IsNewPort (t : Rows) (place : ℕ) (p : PortState HeldFrame) : Type 0 where
  pub stands : queue.StandsFor facts p
      (queue.no_calls (byte_ns_at t (place + 1)) (buffer_at t (place + 1)))
  pub quiet : (time : ℕ) → held.IsQuiet facts p time
  pub empty : held.frames_held p ≡ 0
  pub clock : held.last_time p ≡ 0
