-- One network for each switch, and a ring of what cables carry now, stand for the events so far,
-- and then for one event more.
use Rattle.std.specs.Prelude.{◌≡◌, ℕ, ◌<◌, ◌≤◌, ◌⊎◌, true, false, None, Some, List, [], ◌∷◌, ◌++◌, length, set, slice_get}
use Rattle.std.specs.List.{AllByRecursion}
use Rattle.afdx_frame.specs.Ports.{last_port}
use Rattle.afdx_frame.specs.declared.link.Side.{Side}
use Rattle.afdx_port.specs.Due.{IsAfter}
use Rattle.afdx_port.specs.History.{due_at}
use Rattle.afdx_port.specs.Schedule.{Turn}
use Rattle.afdx_port.specs.Times.{latest_put}
use Rattle.afdx_switch.specs.HeldFrames.{HeldFrame}
use Rattle.afdx_switch.specs.Switching.{PortTurn}
use Rattle.afdx_network.specs.Events.{Admission, Came, Left, Departure}
use Rattle.afdx_network.specs.Network as network
use Rattle.afdx_network.specs.Order.{is_below, side_number}
use Rattle.afdx_network.specs.declared.network.Network.{Network}
use Rattle.afdx_cascade.specs.Cables.{brought}
use Rattle.afdx_cascade.specs.SwitchEvents.{Plan, IsPlan, End, SwitchEvent, AlwaysKeepsRules, at_switch, end_at}
use Rattle.afdx_cascade.specs.Runs.{Line, IsTurnDue, arriving, event_at}
use Rattle.afdx_cascade.specs.Found.{AllStand}
use Rattle.afdx_cascade.specs.Due.{OnCable, IsRing, frame_place, turn_event}

-- each network stands for the events at its switch, and the ring for what cables carry
pub record Stands (c : Plan) (networks : List Network) (time : ℕ) (ring : List OnCable)
    (so_far : List SwitchEvent) : Type 0 where
  pub all : AllStand c networks so_far
  pub carried : IsRing c so_far time ring
  pub rules : AlwaysKeepsRules c so_far

-- ---- one event more

-- New networks and an empty ring stand for no events.
abbrev pub NothingHappened : Type 0
NothingHappened =
    (c : Plan) (networks : List Network) →
    ((k : ℕ) (n : Network) → slice_get networks k ≡ Some n →
    network.StandsFor (c.tables k) n []) →
    Stands c networks 0 [] []

-- The frame at the front of the ring arrives at the other end of its cable.
abbrev pub FrameArrives : Type 0
FrameArrives =
    (c : Plan) (networks : List Network) (time : ℕ) (r : OnCable) (rest : List OnCable)
    (so_far : List SwitchEvent) (to : End) (new : Network) →
    IsPlan c →
    Stands c networks time (r ∷ rest) so_far →
    to.switch < length networks →
    c.far_end r.from.switch r.from.port ≡ Some to →
    let h = arriving c so_far to.switch (brought r.side to.port r.turn) in
    network.StandsFor (c.tables to.switch) new (h.event ∷ at_switch to.switch so_far) →
    Stands c (set networks to.switch new) time rest (h ∷ so_far)

-- A frame of the list arrives, at a port where no cable is.
abbrev pub LineArrives : Type 0
LineArrives =
    (c : Plan) (networks : List Network) (time : ℕ) (ring : List OnCable)
    (so_far : List SwitchEvent) (line : Line) (new : Network) →
    Stands c networks time ring so_far →
    line.switch < length networks →
    c.far_end line.switch line.arrival.port ≡ None →
    let h = arriving c so_far line.switch line.arrival in
    network.StandsFor (c.tables line.switch) new (h.event ∷ at_switch line.switch so_far) →
    Stands c (set networks line.switch new) time ring (h ∷ so_far)

-- a turn whose frame no cable carries: a drop, a slot at a port where no cable is, or a slot that
-- ends too late to arrive anywhere
abbrev pub IsLast : Plan → ℕ → Departure → Type 0
IsLast c k d =
    (d.turn.too_old ≡ true) ⊎ ((c.far_end k d.port ≡ None) ⊎ (latest_put < d.turn.end))

-- Such a turn is over.
abbrev pub TurnEnds : Type 0
TurnEnds =
    (c : Plan) (networks : List Network) (time : ℕ) (ring : List OnCable)
    (so_far : List SwitchEvent) (k : ℕ) (d : Departure) (new : Network) →
    IsPlan c →
    Stands c networks time ring so_far →
    k < length networks →
    IsLast c k d →
    network.StandsFor (c.tables k) new (Left d ∷ at_switch k so_far) →
    Stands c (set networks k new) time ring (event_at k (Left d) ∷ so_far)

-- The slot of a frame that a cable carries is over: the frame joins the ring, behind those that
-- left before it at that time.
abbrev pub FrameIsCarried : Type 0
FrameIsCarried =
    (c : Plan) (networks : List Network) (time : ℕ) (ring : List OnCable)
    (so_far : List SwitchEvent) (k : ℕ) (d : Departure) (new : Network) (to : End) →
    IsPlan c →
    Stands c networks time ring so_far →
    k < length networks →
    d.turn.too_old ≡ false →
    d.turn.end ≤ latest_put →
    c.far_end k d.port ≡ Some to →
    let r : OnCable = record { from = end_at k d.port; side = d.side; turn = d.turn } in
    (ring ≡ []) ⊎ (time ≡ d.turn.end) →
    AllByRecursion (λ z. is_below (frame_place z) (frame_place r) ≡ true) ring →
    network.StandsFor (c.tables k) new (Left d ∷ at_switch k so_far) →
    Stands c (set networks k new) d.turn.end (ring ++ r ∷ [])
    (event_at k (Left d) ∷ so_far)

-- ---- the ring stays in order

-- where the slot of a frame on a cable stood
abbrev pub slot_place : OnCable → List ℕ
slot_place r = r.turn.end ∷ 0 ∷ side_number r.side ∷ r.from.switch ∷ r.from.port ∷ []

-- each turn that is due stands behind the slots of these
abbrev pub AreDueAfter : Plan → List SwitchEvent → List OnCable → Type 0
AreDueAfter c so_far ring = AllByRecursion
    (λ r. (place : List ℕ) (g : SwitchEvent) → IsTurnDue c so_far place g →
    is_below (slot_place r) place ≡ true) ring

-- So a slot of the ring's time joins it behind all.
abbrev pub SlotJoinsBehind : Type 0
SlotJoinsBehind =
    (c : Plan) (so_far : List SwitchEvent) (ring : List OnCable) (r : OnCable) (g : SwitchEvent) →
    AllByRecursion (λ z. z.turn.end ≡ r.turn.end) ring →
    AreDueAfter c so_far ring →
    IsTurnDue c so_far (slot_place r) g →
    AllByRecursion (λ z. is_below (frame_place z) (frame_place r) ≡ true) ring

-- A turn is over. If all others that were due stood behind these slots, which end no later than it,
-- then so do those that are due now.
abbrev pub TurnStaysBehind : Type 0
TurnStaysBehind =
    (c : Plan) (so_far : List SwitchEvent) (ring : List OnCable) (k : ℕ) (side : Side)
    (gone : PortTurn) →
    IsPlan c →
    AllByRecursion (λ z. (place : List ℕ) (g : SwitchEvent) → IsTurnDue c so_far place g →
    (g ≡ turn_event so_far k side gone) ⊎ (is_below (slot_place z) place ≡ true)) ring →
    AllByRecursion (λ z. z.turn.end ≤ gone.turn.end) ring →
    AreDueAfter c (turn_event so_far k side gone ∷ so_far) ring

-- A frame arrives at a switch all of whose turns are then given after its time: so they stand
-- behind the slots that ended by then.
abbrev pub ArrivalStaysBehind : Type 0
ArrivalStaysBehind =
    (c : Plan) (so_far : List SwitchEvent) (ring : List OnCable) (k : ℕ) (a : Admission)
    (time : ℕ) →
    AllByRecursion (λ z. z.turn.end ≤ time) ring →
    ((side : Side) (port : ℕ) (s : Turn HeldFrame) →
    1 ≤ port →
    port ≤ last_port →
    network.IsNextOn (c.tables k) (Came a ∷ at_switch k so_far) side port s →
    IsAfter time (due_at s)) →
    AreDueAfter c so_far ring →
    AreDueAfter c (event_at k (Came a) ∷ so_far) ring
