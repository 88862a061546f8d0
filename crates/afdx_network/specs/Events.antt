-- The events of a replay: each arrival at a switch of either side, and each turn of each output
-- port there. Lists have the latest first.
use Rattle.std.specs.Prelude.{ℕ, zero, suc, Option, List, [], ◌∷◌, ◌++◌, length, if◌then◌else◌}
use Rattle.afdx_frame.specs.declared.link.Side.{Side}
use Rattle.afdx_frame.specs.declared.link.Side.TheVariants.{A, B}
use Rattle.afdx_frame.specs.Ports.{last_port}
use Rattle.afdx_config.specs.Rows.{Rows}
use Rattle.afdx_police.specs.Arrival.{Arrival, is_side}
use Rattle.afdx_police.specs.declared.shape.Reason.{Reason}
use Rattle.afdx_port.specs.Schedule.{Turn}
use Rattle.afdx_port.specs.ScheduleOf.{schedule_of}
use Rattle.afdx_switch.specs.HeldFrames.{HeldFrame}
use Rattle.afdx_switch.specs.Switching.{PortTurn, SwitchHistory}
use Rattle.afdx_switch.specs.Tables.{byte_ns_at, entries_at}
use Rattle.afdx_switch.specs.Verdicts.{reason_of, lost_ports}

-- what became of an arrival: how many came before it, why it was dropped, if it was, and the output
-- ports where its copies were lost
pub record Admission : Type 0 where
  pub arrival : Arrival
  pub place : ℕ
  pub reason : Option Reason
  pub lost : List ℕ

-- a turn of an output port: its side and number, how many turns it had before, and the turn
pub record Departure : Type 0 where
  pub side : Side
  pub port : ℕ
  pub place : ℕ
  pub turn : Turn HeldFrame

pub data Event : Type 0 where
  Came : Admission → Event
  Left : Departure → Event

-- in this order
abbrev pub departure_with : Side → ℕ → ℕ → Turn HeldFrame → Departure
departure_with side port place turn =
    record { side = side; port = port; place = place; turn = turn }

-- what becomes of an arrival that comes after these
abbrev pub admission_after : Rows → List Arrival → Arrival → Admission
admission_after t past x = record {
  arrival = x;
  place = length past;
  reason = reason_of t past x;
  lost = lost_ports t past x;
}

-- the events that the arrivals themselves are
unfoldable pub admissions : Rows → List Arrival → List Event
admissions t [] = []
admissions t (x ∷ past) = Came (admission_after t past x) ∷ admissions t past

-- the turns of an output port after these arrivals, if no more come
unfoldable pub turns_at : Rows → Side → ℕ → List Arrival → List (Turn HeldFrame)
turns_at t side port arrivals = schedule_of (byte_ns_at t port) (entries_at t side port arrivals)

-- the events that turns of a port are
abbrev pub departures_of : Side → ℕ → List (Turn HeldFrame) → List Event
departures_of side port [] = []
departures_of side port (s ∷ earlier) =
    Left (departure_with side port (length earlier) s) ∷ departures_of side port earlier

-- those of the first ports of a side, as many as this
unfoldable pub departures_below : Rows → Side → List Arrival → ℕ → List Event
departures_below t side arrivals zero = []
departures_below t side arrivals (suc count) =
    departures_of side (suc count) (turns_at t side (suc count) arrivals)
    ++ departures_below t side arrivals count

unfoldable pub departures : Rows → Side → List Arrival → List Event
departures t side arrivals = departures_below t side arrivals last_port

-- all events of these arrivals, in no order
unfoldable pub all_events : Rows → List Arrival → List Event
all_events t arrivals =
    admissions t arrivals ++ (departures t A arrivals ++ departures t B arrivals)

-- the arrivals that events are
abbrev pub arrivals_in : List Event → List Arrival
arrivals_in [] = []
arrivals_in (Came c ∷ before) = c.arrival ∷ arrivals_in before
arrivals_in (Left d ∷ before) = arrivals_in before

-- the turns of a side that events are
abbrev pub turns_on : Side → List Event → List PortTurn
turns_on side [] = []
turns_on side (Came c ∷ before) = turns_on side before
turns_on side (Left d ∷ before) =
    if is_side side d.side then record { port = d.port; turn = d.turn } ∷ turns_on side before
    else turns_on side before

-- the calls of a side's switch that events are, of which the last was at this time
abbrev pub calls_on : Side → List Event → ℕ → SwitchHistory
calls_on side events time =
    record { arrivals = arrivals_in events; taken = turns_on side events; time = time }
