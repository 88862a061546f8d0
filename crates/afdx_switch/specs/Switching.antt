-- What a switch, which keeps accounts and the frames that still have a turn to come, has to do with
-- all that came and was taken.
use Rattle.std.specs.Prelude.{All, ◌≡◌, ℕ, ◌+◌, ◌<◌, ◌≤◌, ◌⊎◌, ◌==◌, if◌then◌else◌, Option, Some, List, [], ◌∷◌, length, slice_get, vec_len, sum_by}
use Rattle.afdx_frame.specs.declared.link.Side.{Side}
use Rattle.afdx_frame.specs.Ports.{last_port}
use Rattle.afdx_config.specs.Rows.{Rows}
use Rattle.afdx_police.specs.Arrival.{Arrival}
use Rattle.afdx_port.specs.Due.{IsBy, order_of}
use Rattle.afdx_port.specs.Held as held
use Rattle.afdx_port.specs.History as queue
use Rattle.afdx_port.specs.Schedule.{Turn, IsNext, IsSchedule}
use Rattle.afdx_port.specs.declared.left.Due.{Due}
use Rattle.afdx_port.specs.declared.port_state.PortState.{PortState}
use Rattle.afdx_law_bounds.specs.Outputs.{Row}
use Rattle.afdx_switch.specs.HeldFrames.{HeldFrame, facts}
use Rattle.afdx_switch.specs.Tables.{rows_of, byte_ns_at, buffer_at, entries_at}
use Rattle.afdx_switch.specs.Departures.{as_given, giving_port}
use Rattle.afdx_switch.specs.declared.line.Line.{Line}
use Rattle.afdx_switch.specs.declared.switch.Departure.{Departure}
use Rattle.afdx_switch.specs.declared.switch_state.SwitchState.{SwitchState}
use Rattle.afdx_switch.specs.Lines.{IsLine, IsPlaceOf}

-- a turn of the output port of this number
pub record PortTurn : Type 0 where
  pub port : ℕ
  pub turn : Turn HeldFrame

-- the calls of a switch so far: what arrived on either side, the turns that were taken, both with
-- the newest first, and the last time used
pub record SwitchHistory : Type 0 where
  pub arrivals : List Arrival
  pub taken : List PortTurn
  pub time : ℕ

-- of a new switch
abbrev pub no_calls : SwitchHistory
no_calls = record { arrivals = []; taken = []; time = 0 }

-- with the newest arrival, at its time
abbrev pub with_arrival : SwitchHistory → Arrival → SwitchHistory
with_arrival h x = record { arrivals = x ∷ h.arrivals; taken = h.taken; time = x.time }

-- with the newest turn, which was taken by this time
abbrev pub with_take : SwitchHistory → PortTurn → ℕ → SwitchHistory
with_take h gone until = record { arrivals = h.arrivals; taken = gone ∷ h.taken; time = until }

-- with no more than a later time
abbrev pub at : SwitchHistory → ℕ → SwitchHistory
at h time = record { arrivals = h.arrivals; taken = h.taken; time = time }

-- the turns of a port that were taken
unfoldable pub taken_at : ℕ → List PortTurn → List (Turn HeldFrame)
taken_at port [] = []
taken_at port (gone ∷ earlier) =
    if gone.port == port then gone.turn ∷ taken_at port earlier else taken_at port earlier

-- the calls of a port, of which the last was at this time
abbrev pub calls_at : Rows → Side → ℕ → SwitchHistory → ℕ → queue.PortHistory HeldFrame
calls_at t side port h time =
    record {
      byte_ns = byte_ns_at t port;
      buffer = buffer_at t port;
      entries = entries_at t side port h.arrivals;
      taken = taken_at port h.taken;
      time = time;
    }

-- the next turn of a port
abbrev pub IsNextAt : Rows → Side → SwitchHistory → ℕ → Turn HeldFrame → Type 0
IsNextAt t side h port s =
    IsNext (byte_ns_at t port) (entries_at t side port h.arrivals) (taken_at port h.taken) s

-- one port's next turn goes before or together with another's
abbrev pub GoesBefore : PortTurn → ℕ → Turn HeldFrame → Type 0
GoesBefore gone port s =
    (order_of (queue.due_at gone.turn) < order_of (queue.due_at s))
    ⊎ ((order_of (queue.due_at gone.turn) ≡ order_of (queue.due_at s)) × (gone.port ≤ port))

-- the next turn of the switch: by time, at one time slots before drops, then by port
pub record IsNextOf (t : Rows) (side : Side) (h : SwitchHistory) (gone : PortTurn) : Type 0 where
  pub port_first : 1 ≤ gone.port
  pub port_last : gone.port ≤ last_port
  pub next : IsNextAt t side h gone.port gone.turn
  pub first : (port : ℕ) (s : Turn HeldFrame) →
      1 ≤ port →
      port ≤ last_port →
      IsNextAt t side h port s →
      GoesBefore gone port s

-- the next turn of the switch is due so
pub record IsDue (t : Rows) (side : Side) (h : SwitchHistory) (due : Due) : Type 0 where
  pub gone : PortTurn
  pub next : IsNextOf t side h gone
  pub is : due ≡ queue.due_at gone.turn

-- each entry of a port has had its turn
abbrev pub IsDone : Rows → Side → SwitchHistory → ℕ → Type 0
IsDone t side h port =
    IsSchedule (byte_ns_at t port) (entries_at t side port h.arrivals) (taken_at port h.taken)

-- the switch of this side is the one that these calls leave
pub record StandsFor (t : Rows) (side : Side) (w : SwitchState) (h : SwitchHistory) : Type 0 where
  pub time : w.clock ≡ h.time
  pub line_count : vec_len w.lines ≡ length (rows_of t)
  pub lines : (i : ℕ) (r : Row) (line : Line) →
      slice_get (rows_of t) i ≡ Some r →
      slice_get w.lines.items i ≡ Some line →
      IsLine side h.arrivals r line
  pub places : (vl : ℕ) (place : Option ℕ) →
      slice_get w.places.items vl ≡ Some place →
      IsPlaceOf (rows_of t) vl place
  pub port_count : length w.ports.items ≡ last_port
  pub ports : (i : ℕ) (p : PortState HeldFrame) →
      slice_get w.ports.items i ≡ Some p →
      queue.StandsFor facts p (calls_at t side (i + 1) h p.clock)

-- `take(t)` would answer None
abbrev pub IsQuiet : SwitchState → ℕ → Type 0
IsQuiet w t = All (λ p. held.IsQuiet facts p t) w.ports.items

-- the last time that was used
abbrev pub last_time : SwitchState → ℕ
last_time w = w.clock

-- how many frames the switch holds
abbrev pub frames_held : SwitchState → ℕ
frames_held w = sum_by (λ p. held.frames_held p) w.ports.items

-- what a departure hands out
pub record Hands (d : Departure) (gone : PortTurn) : Type 0 where
  pub port : giving_port d ≡ gone.port
  pub left : as_given d ≡ queue.left_of gone.turn

-- the next turn is given, which is given by then
pub record Gives (t : Rows) (side : Side) (h : SwitchHistory) (until : ℕ) (d : Departure)
    (new : SwitchState) : Type 0 where
  pub gone : PortTurn
  pub next : IsNextOf t side h gone
  pub in_time : IsBy until (queue.due_at gone.turn)
  pub hands : Hands d gone
  pub stands : StandsFor t side new (with_take h gone until)
