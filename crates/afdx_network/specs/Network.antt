-- What the switches of both sides have to do with the events so far.
use Rattle.std.specs.Prelude.{ℕ, ◌≡◌, ◌+◌, ◌<◌, ◌≤◌, ◌⊎◌, true, Option, Some, None, List, [], ◌∷◌, length, filter}
use Rattle.afdx_frame.specs.declared.link.Side.{Side}
use Rattle.afdx_frame.specs.declared.link.Side.TheVariants.{A, B}
use Rattle.afdx_frame.specs.Ports.{last_port}
use Rattle.afdx_config.specs.Lawful.{IsLawfulSwitch}
use Rattle.afdx_config.specs.Rows.{Rows}
use Rattle.afdx_police.specs.declared.shape.Reason.{Reason}
use Rattle.afdx_port.specs.Due.{IsBy, order_of}
use Rattle.afdx_port.specs.History.{left_of, due_at}
use Rattle.afdx_port.specs.Schedule.{Turn}
use Rattle.afdx_port.specs.declared.left.Due.{Due}
use Rattle.afdx_switch.specs.Calls as calls
use Rattle.afdx_switch.specs.Departures.{as_given, giving_port, giving_side}
use Rattle.afdx_switch.specs.HeldFrames.{HeldFrame}
use Rattle.afdx_switch.specs.Switching as switch
use Rattle.afdx_switch.specs.Switching.{IsNextAt, IsNextOf, taken_at}
use Rattle.afdx_switch.specs.Ports.{holds}
use Rattle.afdx_switch.specs.declared.ports.PortSet.{PortSet}
use Rattle.afdx_switch.specs.declared.switch.Departure.{Departure as HandedOut}
use Rattle.afdx_switch.specs.Verdicts.{numbers}
use Rattle.afdx_switch.specs.declared.verdict.Verdict.{Verdict}
use Rattle.afdx_switch.specs.declared.verdict.Verdict.TheVariants.{Dropped, Accepted}
use Rattle.afdx_network.specs.Events.{Event, Came, Left, Admission, Departure, departure_with, admission_after, arrivals_in, turns_on, calls_on}
use Rattle.afdx_network.specs.First.{IsFirstOf, IsFirstSide}
use Rattle.afdx_network.specs.Order.{IsAmong, AreInOrder, is_below, is_before, key, side_number}
use Rattle.afdx_network.specs.declared.network.Network.{Network}

-- the event is what becomes of an arrival after these, or the next turn of a port
abbrev pub Follows : Rows → List Event → Event → Type 0
Follows t before (Came c) = c ≡ admission_after t (arrivals_in before) c.arrival
Follows t before (Left d) =
    (1 ≤ d.port) × (d.port ≤ last_port)
    × (d.place ≡ length (taken_at d.port (turns_on d.side before)))

-- each event follows those before it
abbrev pub EachFollows : Rows → List Event → Type 0
EachFollows t [] = Unit {0}
EachFollows t (e ∷ before) = Follows t before e × EachFollows t before

-- why an arrival with this verdict was dropped, if it was
abbrev pub reason_in : Verdict → Option Reason
reason_in (Dropped reason) = Some reason
reason_in (Accepted lost) = None

-- the ports of a set, in ascending order
unfoldable pub ports_in : PortSet → List ℕ
ports_in set = filter (holds set) numbers

-- the ports where an arrival with this verdict was lost
abbrev pub lost_in : Verdict → List ℕ
lost_in (Dropped reason) = []
lost_in (Accepted lost) = ports_in lost

-- a verdict says what became of an arrival
pub record Tells (verdict : Verdict) (c : Admission) : Type 0 where
  pub reason : reason_in verdict ≡ c.reason
  pub lost : lost_in verdict ≡ c.lost

-- neither switch was used after this time
pub record IsUntil (n : Network) (time : ℕ) : Type 0 where
  pub on_a : switch.last_time n.switches.a ≤ time
  pub on_b : switch.last_time n.switches.b ≤ time

-- `take(time)` would answer None
pub record IsQuiet (n : Network) (time : ℕ) : Type 0 where
  pub on_a : switch.IsQuiet n.switches.a time
  pub on_b : switch.IsQuiet n.switches.b time

-- the first turn of both sides stands here in the order of turns, and is that of this side
pub record TellsOrder (n : Network) (order : ℕ) (side : Side) : Type 0 where
  pub a : ℕ
  pub b : ℕ
  pub tells_a : calls.TellsOrder n.switches.a a
  pub tells_b : calls.TellsOrder n.switches.b b
  pub first : IsFirstOf a b order side

-- the first turn of both sides is that of this side, and is given by then
pub record IsFirstBy (n : Network) (until : ℕ) (side : Side) : Type 0 where
  pub a : Option Due
  pub b : Option Due
  pub tells_a : calls.TellsDue n.switches.a a
  pub tells_b : calls.TellsDue n.switches.b b
  pub first : IsFirstSide until a b (Some side)

-- how many frames the output ports of both switches hold
abbrev pub frames_held : Network → ℕ
frames_held n = switch.frames_held n.switches.a + switch.frames_held n.switches.b

-- the turn of a port as the event that it is after these
abbrev pub departure_after : List Event → Side → ℕ → Turn HeldFrame → Departure
departure_after before side port s =
    departure_with side port (length (taken_at port (turns_on side before))) s

-- the next turn of a port of a side, after these events
abbrev pub IsNextOn : Rows → List Event → Side → ℕ → Turn HeldFrame → Type 0
IsNextOn t events side port s = IsNextAt t side (calls_on side events 0) port s

-- the switches of both sides are those that these events leave
pub record StandsFor (t : Rows) (n : Network) (events : List Event) : Type 0 where
  pub lawful : IsLawfulSwitch t
  pub on_a : switch.StandsFor t A n.switches.a (calls_on A events (switch.last_time n.switches.a))
  pub on_b : switch.StandsFor t B n.switches.b (calls_on B events (switch.last_time n.switches.b))
  pub in_order : AreInOrder events
  pub follows : EachFollows t events
  -- they come before what arrives next, at any time that isn't past
  pub past : (time : ℕ) →
      IsUntil n time →
      (e : Event) →
      IsAmong e events →
      is_below (key e) (time ∷ 1 ∷ length (arrivals_in events) ∷ []) ≡ true
  -- and before the next turn of each port
  pub next : (side : Side) (port : ℕ) (s : Turn HeldFrame) →
      1 ≤ port →
      port ≤ last_port →
      IsNextOn t events side port s →
      (e : Event) →
      IsAmong e events →
      is_before e (Left (departure_after events side port s)) ≡ true

-- what is handed out for a departure
pub record Hands (value : HandedOut) (d : Departure) : Type 0 where
  pub side : giving_side value ≡ d.side
  pub port : giving_port value ≡ d.port
  pub left : as_given value ≡ left_of d.turn

-- no turn of either side goes before this one of a side
abbrev pub GoesFirst : Rows → List Event → Side → Turn HeldFrame → Type 0
GoesFirst t events side s = (other : Side) (port : ℕ) (r : Turn HeldFrame) →
    1 ≤ port →
    port ≤ last_port →
    IsNextOn t events other port r →
    (order_of (due_at s) < order_of (due_at r))
    ⊎ ((order_of (due_at s) ≡ order_of (due_at r)) × (side_number side ≤ side_number other))

-- the next event is a departure, it is given by then, and its frame is handed out; it is the first
-- turn of its side's switch, and of both
pub record Gives (t : Rows) (events : List Event) (until : ℕ) (value : HandedOut)
    (new : Network) : Type 0 where
  pub departure : Departure
  pub in_time : IsBy until (due_at departure.turn)
  pub hands : Hands value departure
  pub stands : StandsFor t new (Left departure ∷ events)
  pub next : IsNextOf t departure.side (calls_on departure.side events 0)
      (record { port = departure.port; turn = departure.turn })
  pub first : GoesFirst t events departure.side departure.turn
