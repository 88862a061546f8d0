-- Which turn or frame comes next: by an order number of each side's switch, and by what cables
-- carry now.
use Rattle.std.specs.Prelude.{◌≡◌, ℕ, ◌*◌, ◌<◌, ◌≤◌, ◌⊎◌, ◌==◌, ◌&&◌, Bool, true, Some, List, [], ◌∷◌, ◌++◌, filter, map}
use Rattle.std.specs.List.{AllByRecursion}
use Rattle.afdx_frame.specs.Ports.{last_port}
use Rattle.afdx_frame.specs.declared.link.Side.{Side}
use Rattle.afdx_police.specs.Arrival.{is_side}
use Rattle.afdx_port.specs.Due.{order_of}
use Rattle.afdx_port.specs.History.{due_at}
use Rattle.afdx_port.specs.Schedule.{Turn}
use Rattle.afdx_switch.specs.HeldFrames.{HeldFrame}
use Rattle.afdx_switch.specs.Switching.{PortTurn, IsNextOf}
use Rattle.afdx_network.specs.Events.{Left, calls_on}
use Rattle.afdx_network.specs.Network.{IsNextOn, departure_after}
use Rattle.afdx_network.specs.Order.{is_below, side_number}
use Rattle.afdx_law_promises.specs.Sent.{arrivals_at}
use Rattle.afdx_cascade.specs.Cables.{brought, brought_by}
use Rattle.afdx_cascade.specs.SwitchEvents.{Plan, IsPlan, End, SwitchEvent, at_switch, came_to, in_clock, turns_of}
use Rattle.afdx_cascade.specs.Runs.{Line, IsBeforeLine, IsFirstDue, arriving, event_at, turn_phase}

-- an order number for each switch of each side: none of its turns stands before that
abbrev pub AreOrders : Plan → List SwitchEvent → (ℕ → Side → ℕ) → Type 0
AreOrders c so_far order =
    (k : ℕ) (side : Side) (port : ℕ) (s : Turn HeldFrame) →
    1 ≤ port →
    port ≤ last_port →
    IsNextOn (c.tables k) (at_switch k so_far) side port s →
    order k side ≤ order_of (due_at s)

-- this switch of this side has the least of these numbers: of several the one of side A, and of one
-- side the first
abbrev pub IsLeastOf : (ℕ → Side → ℕ) → ℕ → Side → Type 0
IsLeastOf order k side =
    (j : ℕ) (other : Side) →
    ((j ≡ k) × (other ≡ side))
    ⊎ ((order k side < order j other)
    ⊎ ((order k side ≡ order j other)
    × (is_below (side_number side ∷ k ∷ []) (side_number other ∷ j ∷ []) ≡ true)))

-- where a turn stands, and what it is
abbrev pub turn_place : ℕ → Side → PortTurn → List ℕ
turn_place k side gone =
    gone.turn.end ∷ turn_phase gone.turn.too_old ∷ side_number side ∷ k ∷ gone.port ∷ []

abbrev pub turn_event : List SwitchEvent → ℕ → Side → PortTurn → SwitchEvent
turn_event so_far k side gone =
    event_at k (Left (departure_after (at_switch k so_far) side gone.port gone.turn))

-- ---- what cables carry now

-- a frame that left a port, and is on its cable
pub record OnCable : Type 0 where
  pub from : End
  pub side : Side
  pub turn : Turn HeldFrame

-- where its arrival stands
abbrev pub frame_place : OnCable → List ℕ
frame_place r = r.turn.end ∷ 1 ∷ side_number r.side ∷ r.from.switch ∷ r.from.port ∷ []

-- it left this port on this side
abbrev pub has_left : Side → End → OnCable → Bool
has_left side other r = is_side side r.side &&
    (other.switch == r.from.switch && other.port == r.from.port)

-- the turns of those that did
abbrev pub from_end : Side → End → List OnCable → List (Turn HeldFrame)
from_end side other ring = map (λ r. r.turn) (filter (has_left side other) ring)

-- each stands before those behind it
abbrev pub AreAscending : List OnCable → Type 0
AreAscending [] = Unit {0}
AreAscending (r ∷ rest) =
    AllByRecursion (λ z. is_below (frame_place r) (frame_place z) ≡ true) rest × AreAscending rest

-- the ring is what cables carry: it left at this time, and stands in the order in which it arrives.
-- So no cable has more than one frame, on a side and in a direction
pub record IsRing (c : Plan) (so_far : List SwitchEvent) (time : ℕ) (ring : List OnCable) :
    Type 0 where
  pub at_time : AllByRecursion (λ r. r.turn.end ≡ time) ring
  pub ascending : AreAscending ring
  pub joined : AllByRecursion
      (λ r. (e : End) × (c.far_end r.from.switch r.from.port ≡ Some e)) ring
  pub carries : (k port : ℕ) (side : Side) (other : End) →
      c.far_end k port ≡ Some other →
      brought_by side port (in_clock (turns_of other.switch side other.port so_far))
      ≡ map (brought side port) (from_end side other ring)
      ++ arrivals_at side port (came_to k so_far)

-- ---- what comes next

-- The first turn of the switch with the least number comes next, where no cable has a frame of an
-- earlier time.
abbrev pub TurnComesNext : Type 0
TurnComesNext =
    (c : Plan) (so_far : List SwitchEvent) (lines : List Line) (order : ℕ → Side → ℕ)
    (k : ℕ) (side : Side) (gone : PortTurn) (time : ℕ) (ring : List OnCable) →
    AreOrders c so_far order →
    IsLeastOf order k side →
    IsNextOf (c.tables k) side (calls_on side (at_switch k so_far) 0) gone →
    order k side ≡ order_of (due_at gone.turn) →
    IsRing c so_far time ring →
    (ring ≡ []) ⊎ (order k side ≤ 2 * time) →
    IsBeforeLine (turn_place k side gone) lines →
    IsFirstDue c so_far lines (turn_event so_far k side gone)

-- The frame at the front of the ring comes next, where no slot ends at its time any more: it
-- arrives at the other end of its cable.
abbrev pub FrameComesNext : Type 0
FrameComesNext =
    (c : Plan) (so_far : List SwitchEvent) (lines : List Line) (order : ℕ → Side → ℕ)
    (time : ℕ) (r : OnCable) (rest : List OnCable) (to : End) →
    IsPlan c →
    AreOrders c so_far order →
    ((k : ℕ) (side : Side) → 2 * time < order k side) →
    IsRing c so_far time (r ∷ rest) →
    c.far_end r.from.switch r.from.port ≡ Some to →
    IsBeforeLine (frame_place r) lines →
    IsFirstDue c so_far lines (arriving c so_far to.switch (brought r.side to.port r.turn))
