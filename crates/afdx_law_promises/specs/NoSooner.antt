-- No frame leaves a port sooner than it can: not before it came and had its time on the wire. On
-- any tables, admitted or not. Lists have the latest first.
use Rattle.std.specs.Prelude.{◌≡◌, ℕ, ◌+◌, ◌*◌, ◌≤◌, false, List, length}
use Rattle.std.specs.List.{AllByRecursion}
use Rattle.afdx_frame.specs.Regulation.{wire_of}
use Rattle.afdx_frame.specs.declared.link.Side.{Side}
use Rattle.afdx_config.specs.Rows.{Rows}
use Rattle.afdx_police.specs.Arrival.{Arrival}
use Rattle.afdx_port.specs.Schedule.{Turn, AreTurns}
use Rattle.afdx_law_bounds.specs.Outputs.{AreTimed}
use Rattle.afdx_switch.specs.HeldFrames.{HeldFrame}
use Rattle.afdx_switch.specs.Tables.{byte_ns_at, entries_at}
use Rattle.afdx_network.specs.Events.{Event, Left, Departure}
use Rattle.afdx_network.specs.Order.{IsAmong, AreEvents, AreEventsSoFar}

-- a slot ends at least the byte times of all that its frame takes on the wire after the frame came
abbrev pub EndsNoSooner : ℕ → Turn HeldFrame → Type 0
EndsNoSooner byte_ns s =
    s.too_old ≡ false →
    s.entry.time + wire_of (length s.entry.item.bytes) * byte_ns ≤ s.end

-- so does each slot of an output port
abbrev pub NoneEndsTooSoon : Type 0
NoneEndsTooSoon = (t : Rows) (arrivals : List Arrival) (side : Side) (port : ℕ)
    (turns : List (Turn HeldFrame)) →
    AreTurns (byte_ns_at t port) (entries_at t side port arrivals) turns →
    AllByRecursion (EndsNoSooner (byte_ns_at t port)) turns

-- and each departure among events
abbrev pub LeaveNoSooner : Rows → List Event → Type 0
LeaveNoSooner t events =
    (d : Departure) → IsAmong (Left d) events → EndsNoSooner (byte_ns_at t d.port) d.turn

abbrev pub NoneLeavesTooSoon : Type 0
NoneLeavesTooSoon = (t : Rows) (arrivals : List Arrival) (events : List Event) →
    AreTimed arrivals → AreEvents t arrivals events → LeaveNoSooner t events

abbrev pub NoneLeavesTooSoonSoFar : Type 0
NoneLeavesTooSoonSoFar = (t : Rows) (arrivals : List Arrival) (events : List Event) →
    AreTimed arrivals → AreEventsSoFar t arrivals events → LeaveNoSooner t events
