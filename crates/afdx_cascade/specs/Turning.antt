-- Networks and a ring as values of the code: what a turn and an arrival make of them.
use Rattle.std.specs.Prelude.{◌≡◌, ℕ, ◌+◌, ◌*◌, ◌<◌, ◌≤◌, length, ◌⊎◌, Bool, false, true, Option, Some, None, List, [], ◌∷◌, ◌++◌, slice_get}
use Rattle.std.specs.List.{AllByRecursion}
use Rattle.afdx_frame.specs.Ports.{last_port}
use Rattle.afdx_config.specs.Rows.{Rows}
use Rattle.afdx_police.specs.Arrival.{Arrival}
use Rattle.afdx_police.specs.Verdicts.{is_over_rate}
use Rattle.afdx_port.specs.Due.{IsBy}
use Rattle.afdx_port.specs.History.{left_of, due_at}
use Rattle.afdx_port.specs.Times.{latest_put}
use Rattle.afdx_switch.specs.Departures.{as_given, giving_side}
use Rattle.afdx_switch.specs.Early.{IsEarlyBy}
use Rattle.afdx_switch.specs.Switching.{IsNextOf}
use Rattle.afdx_switch.specs.Verdicts.{reason_of}
use Rattle.afdx_network.specs.Events.{Departure, Left, admission_after, calls_on}
use Rattle.afdx_network.specs.Network as network
use Rattle.afdx_network.specs.Order.{is_below}
use Rattle.afdx_network.specs.declared.network.Network.{Network}
use Rattle.afdx_cascade.specs.Due.{OnCable, frame_place}
use Rattle.afdx_cascade.specs.SwitchEvents.{Plan, End, SwitchEvent, at_switch, came_to, end_at}
use Rattle.afdx_cascade.specs.Runs.{event_at, arriving}
use Rattle.afdx_cascade.specs.Standing.{Stands, IsLast}
use Rattle.afdx_cascade.specs.Cables.{brought}
use Rattle.afdx_switch.specs.declared.switch.Departure.{Departure as HandedOut}
use Rattle.afdx_switch.specs.declared.verdict.Verdict.{Verdict}
use Rattle.afdx_cascade.specs.declared.told.Happened.{Happened}
use Rattle.afdx_cascade.specs.declared.told.Happened.TheVariants.{Ended, Carried, Came}
use Rattle.afdx_config.specs.declared.switches.FarEnd.{FarEnd}
use Rattle.afdx_cascade.specs.declared.cable.InTransit.{InTransit}
use Rattle.afdx_cascade.specs.declared.told.SitedPort.{SitedPort}

-- ---- the ends of cables, in a table of 25 entries a switch

abbrev pub entry_in : Option (Option FarEnd) → Option FarEnd
entry_in None = None
entry_in (Some entry) = entry

abbrev pub end_of : Option FarEnd → Option End
end_of None = None
end_of (Some e) = Some (end_at e.switch.0 e.port)

abbrev pub end_in : List (Option FarEnd) → ℕ → ℕ → Option End
end_in ends k port = end_of (entry_in (slice_get ends (k * 25 + port)))

-- the table says what the plan says
abbrev pub AreEnds : Plan → List (Option FarEnd) → Type 0
AreEnds c ends = (k port : ℕ) → port ≤ last_port → c.far_end k port ≡ end_in ends k port

-- ---- what is told

-- the switch at which it happened
abbrev pub switch_of : Happened → ℕ
switch_of (Ended k value) = k.0
switch_of (Carried at time tag) = at.switch.0
switch_of (Came at time tag verdict early) = at.switch.0

-- ---- the ring

-- it is that frame, and says where its cable ends
pub record IsInTransit (c : Plan) (v : InTransit) (r : OnCable) : Type 0 where
  pub to : c.far_end r.from.switch r.from.port ≡ Some (end_at v.switch.0 v.port)
  pub side : giving_side v.departure ≡ r.side
  pub left : as_given v.departure ≡ left_of r.turn

-- they are these frames, in order
abbrev pub AreInTransit : Plan → List InTransit → List OnCable → Type 0
AreInTransit c [] [] = Unit {0}
AreInTransit c (v ∷ vs) (r ∷ rs) = IsInTransit c v r × AreInTransit c vs rs
AreInTransit c [] (r ∷ rs) = ⊥
AreInTransit c (v ∷ vs) [] = ⊥

-- ---- a turn

-- the network of a switch gave its first turn by then: its departure is handed out, and networks
-- and ring stand for it too
pub record GivesAt (c : Plan) (networks : List Network) (time : ℕ) (ring : List OnCable)
    (so_far : List SwitchEvent) (k until : ℕ) (value : HandedOut) : Type 0 where
  pub departure : Departure
  pub in_time : IsBy until (due_at departure.turn)
  pub hands : network.Hands value departure
  pub new : Network
  pub stands : network.StandsFor (c.tables k) new (Left departure ∷ at_switch k so_far)
  pub next : IsNextOf (c.tables k) departure.side (calls_on departure.side (at_switch k so_far) 0)
      (record { port = departure.port; turn = departure.turn })
  pub first : network.GoesFirst (c.tables k) (at_switch k so_far) departure.side departure.turn
  -- no cable has its frame
  pub ended : IsLast c k departure →
      Stands c networks time ring (event_at k (Left departure) ∷ so_far)
  -- a slot at a port where one is
  pub carried : (to : End) →
      departure.turn.too_old ≡ false →
      departure.turn.end ≤ latest_put →
      c.far_end k departure.port ≡ Some to →
      let r : OnCable =
      record { from = end_at k departure.port; side = departure.side; turn = departure.turn } in
      (ring ≡ []) ⊎ (time ≡ departure.turn.end) →
      AllByRecursion (λ z. is_below (frame_place z) (frame_place r) ≡ true) ring →
      Stands c networks departure.turn.end (ring ++ r ∷ [])
      (event_at k (Left departure) ∷ so_far)

-- what is told of a slot at a port of a switch where a cable is
pub record IsCarried (c : Plan) (at : SitedPort) (time tag : ℕ) (d : Departure) : Type 0 where
  pub left : d.turn.too_old ≡ false
  pub cable : (to : End) × (c.far_end at.switch.0 d.port ≡ Some to)
  pub side : at.side ≡ d.side
  pub port : at.port ≡ d.port
  pub time_is : time ≡ d.turn.end
  pub tag_is : tag ≡ d.turn.entry.item.tag

abbrev pub TellsTurn : Plan → ℕ → Happened → Departure → Type 0
TellsTurn c k (Ended at value) d = (at.0 ≡ k) × network.Hands value d
TellsTurn c k (Carried at time tag) d = (at.switch.0 ≡ k) × IsCarried c at time tag d
TellsTurn c k (Came at time tag verdict early) d = ⊥

-- the network of a switch gave its first turn by then, and networks and ring stand for it too: no
-- cable carries its frame, or it joined the ring
pub record TurnsAt (c : Plan) (networks : List Network) (transit : List InTransit) (time : ℕ)
    (ring : List OnCable) (so_far : List SwitchEvent) (k until : ℕ) (value : Happened) :
    Type 0 where
  pub departure : Departure
  pub in_time : IsBy until (due_at departure.turn)
  pub tells : TellsTurn c k value departure
  pub new : Network
  pub stands : network.StandsFor (c.tables k) new (Left departure ∷ at_switch k so_far)
  pub next : IsNextOf (c.tables k) departure.side (calls_on departure.side (at_switch k so_far) 0)
      (record { port = departure.port; turn = departure.turn })
  pub first : network.GoesFirst (c.tables k) (at_switch k so_far) departure.side departure.turn
  pub ended : IsLast c k departure →
      Stands c networks time ring (event_at k (Left departure) ∷ so_far)
      × AreInTransit c transit ring
  pub carried : (to : End) →
      departure.turn.too_old ≡ false →
      departure.turn.end ≤ latest_put →
      c.far_end k departure.port ≡ Some to →
      let r : OnCable =
      record { from = end_at k departure.port; side = departure.side; turn = departure.turn } in
      (ring ≡ []) ⊎ (time ≡ departure.turn.end) →
      AllByRecursion (λ z. is_below (frame_place z) (frame_place r) ≡ true) ring →
      Stands c networks departure.turn.end (ring ++ r ∷ [])
      (event_at k (Left departure) ∷ so_far)
      × AreInTransit c transit (ring ++ r ∷ [])

-- ---- the frame at the front

-- the network at the other end of its cable can take it
pub record CanArrive (networks : List Network) (v : InTransit) : Type 0 where
  pub within : v.switch.0 < length networks
  pub limit : (as_given v.departure).end ≤ latest_put
  pub clock : (n : Network) →
      slice_get networks v.switch.0 ≡ Some n →
      network.IsUntil n (as_given v.departure).end
  pub quiet : (n : Network) →
      slice_get networks v.switch.0 ≡ Some n →
      network.IsQuiet n (as_given v.departure).end

-- by how much an arrival came too early, if it was dropped for its link's rate; else 0
abbrev pub IsWait : (was_dropped : Bool) → Rows → List Arrival → Arrival → ℕ → Type 0
IsWait true t past x wait = IsEarlyBy t past x wait
IsWait false t past x wait = wait ≡ 0

abbrev pub WasEarlyBy : Rows → List Arrival → Arrival → ℕ → Type 0
WasEarlyBy t past x wait = IsWait (is_over_rate (reason_of t past x)) t past x wait

-- it arrived, and left the ring; what is told of it
pub record ArrivesAt (c : Plan) (networks : List Network) (transit : List InTransit) (time : ℕ)
    (r : OnCable) (rest : List OnCable) (so_far : List SwitchEvent) (value : Happened) :
    Type 0 where
  pub at : SitedPort
  pub verdict : Verdict
  pub early : ℕ
  pub is : value ≡ Came at r.turn.end r.turn.entry.item.tag verdict early
  pub side : at.side ≡ r.side
  pub to : c.far_end r.from.switch r.from.port ≡ Some (end_at at.switch.0 at.port)
  pub stands : Stands c networks time rest
      (arriving c so_far at.switch.0 (brought r.side at.port r.turn) ∷ so_far)
  pub in_transit : AreInTransit c transit rest
  pub tells : network.Tells verdict (admission_after (c.tables at.switch.0)
      (came_to at.switch.0 so_far) (brought r.side at.port r.turn))
  pub was_early : WasEarlyBy (c.tables at.switch.0) (came_to at.switch.0 so_far)
      (brought r.side at.port r.turn) early
