-- What the events of a cascade are at each of its parts: at a switch, on a cable, and of the list.
-- Lists have the latest first, the list of frames its first line.
use Rattle.std.specs.Prelude.{◌≡◌, ℕ, ◌*◌, ◌<◌, ◌≤◌, ◌==◌, None, Some, List, ◌++◌, filter, length}
use Rattle.std.specs.Prelude.{map, reverse}
use Rattle.std.specs.List.{AllByRecursion}
use Rattle.afdx_frame.specs.declared.link.Side.{Side}
use Rattle.afdx_network.specs.Events.{Event, Came, Left}
use Rattle.afdx_network.specs.Order.{events_of}
use Rattle.afdx_police.specs.Arrival.{Arrival}
use Rattle.afdx_law_promises.specs.Sent.{arrivals_at}
use Rattle.afdx_cascade.specs.Cables.{brought_by}
use Rattle.afdx_cascade.specs.Cascade.{StandsFor}
use Rattle.afdx_cascade.specs.Keeping.{IsNothingDue}
use Rattle.afdx_cascade.specs.Runs.{Line, Runs, AreAll}
use Rattle.afdx_cascade.specs.SwitchEvents.{Plan, End, SwitchEvent, AlwaysKeepsRules, FrameTest}
use Rattle.afdx_cascade.specs.SwitchEvents.{accepted_by, at_switch, came_to, count_if, in_clock, listed, passes, turns_of}
use Rattle.afdx_cascade.specs.declared.cascade.Cascade.{Cascade}

-- ---- a switch

-- The events at a switch are the first of all events of its own tables and of what came to it.
abbrev pub SwitchBeginsAlone : Type 0
SwitchBeginsAlone =
    (c : Plan) (w : Cascade) (so_far : List SwitchEvent) (k : ℕ) →
    StandsFor c w so_far →
    k < c.count →
    (later : List Event)
    × (events_of (c.tables k) (came_to k so_far) ≡ later ++ at_switch k so_far)

-- Where nothing is due any more they are all of these.
abbrev pub SwitchRunsAlone : Type 0
SwitchRunsAlone =
    (c : Plan) (w : Cascade) (so_far : List SwitchEvent) (k : ℕ) →
    StandsFor c w so_far →
    IsNothingDue c so_far →
    k < c.count →
    at_switch k so_far ≡ events_of (c.tables k) (came_to k so_far)

-- ---- a cable

-- Where nothing is due any more, all that left the port at a cable's other end has arrived, in
-- order, but for what left too late to arrive anywhere.
abbrev pub CablesBringAll : Type 0
CablesBringAll =
    (c : Plan) (so_far : List SwitchEvent) (k port : ℕ) (side : Side) (other : End) →
    AlwaysKeepsRules c so_far →
    IsNothingDue c so_far →
    c.far_end k port ≡ Some other →
    brought_by side port (in_clock (turns_of other.switch side other.port so_far))
    ≡ arrivals_at side port (came_to k so_far)

-- when an event happened
abbrev pub time_of : Event → ℕ
time_of (Came a) = a.arrival.time
time_of (Left d) = d.turn.end

-- what a cable brought so far is, in order, the first of what left the port at its other end: all
-- but one frame at most, which left last, so that no event was later
pub record BringsFirst (side : Side) (k port : ℕ) (other : End) (so_far : List SwitchEvent) :
    Type 0 where
  pub waiting : List Arrival
  pub few : length waiting ≤ 1
  pub last : AllByRecursion
      (λ x. AllByRecursion (λ h. time_of h.event ≤ x.time) so_far) waiting
  pub brings : brought_by side port (in_clock (turns_of other.switch side other.port so_far))
      ≡ waiting ++ arrivals_at side port (came_to k so_far)

-- So it is at each moment.
abbrev pub CablesBringFirst : Type 0
CablesBringFirst =
    (c : Plan) (w : Cascade) (so_far : List SwitchEvent) (k port : ℕ) (side : Side) (other : End) →
    StandsFor c w so_far →
    c.far_end k port ≡ Some other →
    BringsFirst side k port other so_far

-- ---- the list

-- the frames of these lines
abbrev pub frames_of : List Line → List Arrival
frames_of lines = map (λ line. line.arrival) lines

-- some lines were taken, the latest first, and these are left
pub record AreTaken (c : Plan) (lines : List Line) (so_far : List SwitchEvent)
    (rest : List Line) : Type 0 where
  pub taken : List Line
  pub are : lines ≡ reverse taken ++ rest
  pub listed_is : listed c so_far ≡ frames_of taken

-- The arrivals at ports where no cable is are those of the lines that were taken.
abbrev pub ListedIsListed : Type 0
ListedIsListed =
    (c : Plan) (lines rest : List Line) (so_far : List SwitchEvent) →
    Runs c lines so_far rest →
    AreTaken c lines so_far rest

-- the frames of the lines that name a switch
abbrev pub frames_to : ℕ → List Line → List Arrival
frames_to k lines = frames_of (filter (λ line. line.switch == k) lines)

-- What comes to a port where no cable is are the frames of its switch's lines there, in order.
abbrev pub PortsGetTheirLines : Type 0
PortsGetTheirLines =
    (c : Plan) (lines : List Line) (events : List SwitchEvent) (side : Side) (k port : ℕ) →
    AreAll c lines events →
    c.far_end k port ≡ None →
    arrivals_at side port (came_to k events)
    ≡ arrivals_at side port (frames_to k (reverse lines))

-- each switch accepts on a side, of any frames, at most as many as the list has there; there are
-- few events for each line, and no others are all events of the list
pub record AreOfList (c : Plan) (lines : List Line) (events : List SwitchEvent) : Type 0 where
  pub once : (side : Side) (k : ℕ) (test : FrameTest) →
      count_if (passes side test) (accepted_by (c.tables k) (came_to k events))
      ≤ count_if (passes side test) (frames_of lines)
  pub few : length events ≤ 1153 * length lines
  pub one : (others : List SwitchEvent) → AreAll c lines others → others ≡ events

-- So it is of all events of a list.
abbrev pub EventsAreOfList : Type 0
EventsAreOfList =
    (c : Plan) (w : Cascade) (lines : List Line) (events : List SwitchEvent) →
    StandsFor c w events →
    AreAll c lines events →
    AreOfList c lines events
