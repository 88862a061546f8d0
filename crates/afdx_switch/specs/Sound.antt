-- What is true of every switch, whatever the calls.
use Rattle.std.specs.Prelude.{All, ◌≡◌, ℕ, ◌<◌, ◌≤◌, Some, IfSome, slice_get, vec_len}
use Rattle.afdx_frame.specs.Layout.{identifier_count}
use Rattle.afdx_frame.specs.Ports.{last_port}
use Rattle.afdx_police.specs.LinkAccounts as accounts
use Rattle.afdx_port.specs.Held as held
use Rattle.afdx_port.specs.History as queue
use Rattle.afdx_port.specs.Ports.{AreServed}
use Rattle.afdx_port.specs.Serving.{IsServing}
use Rattle.afdx_port.specs.Times.{greatest_wait}
use Rattle.afdx_port.specs.declared.port_state.PortState.{PortState}
use Rattle.afdx_switch.specs.HeldFrames.{HeldFrame, facts}
use Rattle.afdx_switch.specs.Lines.{ArePlaces}
use Rattle.afdx_switch.specs.declared.line.Line.{Line}
use Rattle.afdx_switch.specs.declared.switch_state.SwitchState.{SwitchState}

-- its account was not used after this time, its frames may not wait too long, and it goes to ports
-- of the switch, each once
pub record IsLineSound (time : ℕ) (line : Line) : Type 0 where
  pub in_time : accounts.last_time line.account ≤ time
  pub wait : IfSome line.longest_wait (λ wait. wait ≤ greatest_wait)
  pub goes : ArePlaces line.goes.items

-- a port that was not used after this time, and that some calls leave so
pub record IsPortSound (time : ℕ) (p : PortState HeldFrame) : Type 0 where
  pub in_time : held.last_time p ≤ time
  pub calls : queue.PortHistory HeldFrame
  pub stands : queue.StandsFor facts p calls

-- all lines and ports are so at the switch's time, each identifier leads to a line that is kept,
-- and the port that is served first is the one whose turn goes first
pub record IsSwitchSound (w : SwitchState) : Type 0 where
  pub lines : All (IsLineSound w.clock) w.lines.items
  pub place_count : vec_len w.places ≡ identifier_count
  pub places : (vl place : ℕ) →
      slice_get w.places.items vl ≡ Some (Some place) →
      place < vec_len w.lines
  pub port_count : vec_len w.ports ≡ last_port
  pub ports : All (IsPortSound w.clock) w.ports.items
  pub serving : IsServing facts w.ports.items w.serving
  pub served : AreServed facts w.ports.items w.first
