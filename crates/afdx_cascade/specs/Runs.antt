-- The one order of all events of a cascade: what comes next after some of them follows from these
-- and the list of frames. Lists of events have the latest first, the list of frames its first line.
use Rattle.std.specs.Prelude.{◌≡◌, ℕ, ◌≤◌, ◌⊎◌, true, false, Bool, Some, None, List, [], ◌∷◌, ◌++◌, length}
use Rattle.afdx_frame.specs.Ports.{last_port}
use Rattle.afdx_frame.specs.declared.link.Side.{Side}
use Rattle.afdx_police.specs.Arrival.{Arrival}
use Rattle.afdx_port.specs.Schedule.{Turn}
use Rattle.afdx_switch.specs.HeldFrames.{HeldFrame}
use Rattle.afdx_network.specs.Events.{Event, Came, Left, admission_after}
use Rattle.afdx_network.specs.Network.{IsNextOn, departure_after}
use Rattle.afdx_network.specs.Order.{is_below, side_number}
use Rattle.afdx_law_promises.specs.Sent.{arrivals_at}
use Rattle.afdx_cascade.specs.Cables.{brought_by}
use Rattle.afdx_cascade.specs.SwitchEvents.{Plan, End, SwitchEvent, at_switch, came_to, in_clock, turns_of}

-- a frame of the list, and the switch at which it arrives
pub record Line : Type 0 where
  pub switch : ℕ
  pub arrival : Arrival

abbrev pub event_at : ℕ → Event → SwitchEvent
event_at k e = record { switch = k; event = e }

-- what becomes of an arrival at a switch after these events
abbrev pub arriving : Plan → List SwitchEvent → ℕ → Arrival → SwitchEvent
arriving c so_far k x = event_at k (Came (admission_after (c.tables k) (came_to k so_far) x))

-- ---- what is due

-- at one time frames leave, then cables bring theirs (1), then those of the list arrive (2), then
-- frames are dropped as too old
abbrev pub turn_phase : (is_too_old : Bool) → ℕ
turn_phase false = 0
turn_phase true = 3

-- the next turn of an output port, and its place in the order: by time and phase, then by side,
-- switch and port
pub record IsTurnDue (c : Plan) (so_far : List SwitchEvent) (place : List ℕ) (h : SwitchEvent) :
    Type 0 where
  pub k : ℕ
  pub side : Side
  pub port : ℕ
  pub turn : Turn HeldFrame
  pub low : 1 ≤ port
  pub high : port ≤ last_port
  pub next : IsNextOn (c.tables k) (at_switch k so_far) side port turn
  pub place_is : place
      ≡ turn.end ∷ turn_phase turn.too_old ∷ side_number side ∷ k ∷ port ∷ []
  pub is : h ≡ event_at k (Left (departure_after (at_switch k so_far) side port turn))

-- the oldest frame that a cable has yet to bring, at the time and in the order in which it left
pub record IsFrameDue (c : Plan) (so_far : List SwitchEvent) (place : List ℕ) (h : SwitchEvent) :
    Type 0 where
  pub k : ℕ
  pub side : Side
  pub port : ℕ
  pub other : End
  pub joined : c.far_end k port ≡ Some other
  pub later : List Arrival
  pub arrival : Arrival
  pub waits : brought_by side port (in_clock (turns_of other.switch side other.port so_far))
      ≡ later ++ arrival ∷ arrivals_at side port (came_to k so_far)
  pub place_is : place
      ≡ arrival.time ∷ 1 ∷ side_number side ∷ other.switch ∷ other.port ∷ []
  pub is : h ≡ arriving c so_far k arrival

abbrev pub IsDue : Plan → List SwitchEvent → List ℕ → SwitchEvent → Type 0
IsDue c so_far place h = IsTurnDue c so_far place h ⊎ IsFrameDue c so_far place h

-- ---- what comes next

-- this place is before that of the list's next frame, if the list has one
abbrev pub IsBeforeLine : List ℕ → List Line → Type 0
IsBeforeLine place [] = Unit {0}
IsBeforeLine place (line ∷ lines) = is_below place (line.arrival.time ∷ 2 ∷ []) ≡ true

-- it is due, before all else that is due and before the list's next frame
pub record IsFirstDue (c : Plan) (so_far : List SwitchEvent) (lines : List Line) (h : SwitchEvent) :
    Type 0 where
  pub place : List ℕ
  pub due : IsDue c so_far place h
  pub before_line : IsBeforeLine place lines
  pub first : (other : List ℕ) (g : SwitchEvent) →
      IsDue c so_far other g →
      (g ≡ h) ⊎ (is_below place other ≡ true)

-- nothing is due before the list's next frame, which arrives at a port where no cable is
pub record IsNextLine (c : Plan) (so_far : List SwitchEvent) (lines : List Line) (h : SwitchEvent)
    (rest : List Line) : Type 0 where
  pub line : Line
  pub are : lines ≡ line ∷ rest
  pub free : c.far_end line.switch line.arrival.port ≡ None
  pub is : h ≡ arriving c so_far line.switch line.arrival
  pub first : (place : List ℕ) (g : SwitchEvent) →
      IsDue c so_far place g →
      is_below (line.arrival.time ∷ 2 ∷ []) place ≡ true

-- the next event, and what the list has left after it
abbrev pub IsNextEvent : Plan → List SwitchEvent → List Line → SwitchEvent → List Line → Type 0
IsNextEvent c so_far lines h rest =
    (IsFirstDue c so_far lines h × (rest ≡ lines)) ⊎ IsNextLine c so_far lines h rest

-- these are the first events of a list, which then has these lines left
abbrev pub Runs : Plan → List Line → List SwitchEvent → List Line → Type 0
Runs c lines [] rest = rest ≡ lines
Runs c lines (h ∷ before) rest =
    (left : List Line) × Runs c lines before left × IsNextEvent c before left h rest

-- and these are all: the list has no line left, and nothing is due
pub record AreAll (c : Plan) (lines : List Line) (events : List SwitchEvent) : Type 0 where
  pub runs : Runs c lines events []
  pub none : (place : List ℕ) (h : SwitchEvent) → IsDue c events place h → ⊥

-- ---- the laws

-- Two runs of one list begin alike: the longer one with the events of the other.
abbrev pub EventsBegin : Type 0
EventsBegin =
    (c : Plan) (lines : List Line) (events others : List SwitchEvent)
    (rest others_rest : List Line) →
    Runs c lines events rest →
    Runs c lines others others_rest →
    length others ≤ length events →
    (later : List SwitchEvent) × (events ≡ later ++ others)

-- So a list has at most one list of all its events.
abbrev pub EventsAreOne : Type 0
EventsAreOne =
    (c : Plan) (lines : List Line) (events others : List SwitchEvent) →
    AreAll c lines events →
    AreAll c lines others →
    events ≡ others
