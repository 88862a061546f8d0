-- Networks and a ring that keep to the events so far: what they do next is the next event.
use Rattle.std.specs.Prelude.{◌≡◌, ℕ, ◌+◌, ◌*◌, ◌<◌, ◌≤◌, ◌⊎◌, Some, None, List, [], ◌∷◌, length, slice_get}
use Rattle.afdx_frame.specs.Ports.{last_port}
use Rattle.afdx_frame.specs.declared.link.Side.{Side}
use Rattle.afdx_port.specs.Due.{given_at}
use Rattle.afdx_port.specs.History.{due_at}
use Rattle.afdx_port.specs.Ports.{order_without_turn}
use Rattle.afdx_port.specs.Schedule.{Turn}
use Rattle.afdx_port.specs.Times.{latest_put}
use Rattle.afdx_switch.specs.Departures.{as_given}
use Rattle.afdx_switch.specs.HeldFrames.{HeldFrame}
use Rattle.afdx_switch.specs.Switching.{PortTurn}
use Rattle.afdx_switch.specs.Verdicts.{shape_fault}
use Rattle.afdx_network.specs.Events.{Departure, Left}
use Rattle.afdx_network.specs.Network as network
use Rattle.afdx_network.specs.declared.network.Network.{Network}
use Rattle.afdx_cascade.specs.Cables.{brought}
use Rattle.afdx_cascade.specs.Due.{OnCable, frame_place, turn_place, turn_event}
use Rattle.afdx_cascade.specs.SwitchEvents.{Plan, IsPlan, End, SwitchEvent, at_switch}
use Rattle.afdx_cascade.specs.Runs.{Line, IsBeforeLine, IsFirstDue, IsNextLine, arriving, event_at, IsDue}
use Rattle.afdx_cascade.specs.Scan.{IsFirstFrom}
use Rattle.afdx_cascade.specs.Standing.{Stands, AreDueAfter}
use Rattle.afdx_cascade.specs.Turning.{AreInTransit, IsInTransit, ArrivesAt, CanArrive, TurnsAt, TellsTurn, switch_of}
use Rattle.afdx_cascade.specs.declared.scan.FirstTurn.{FirstTurn}
use Rattle.afdx_cascade.specs.declared.cable.InTransit.{InTransit}
use Rattle.afdx_cascade.specs.declared.told.Happened.{Happened}

-- they stand for the events, none of which was given after this time
pub record Keeps (c : Plan) (networks : List Network) (time : ℕ) (ring : List OnCable)
    (so_far : List SwitchEvent) : Type 0 where
  pub plan : IsPlan c
  pub within : (k port : ℕ) (e : End) → c.far_end k port ≡ Some e → e.switch < length networks
  pub stands : Stands c networks time ring so_far
  -- the turns that are due stand behind the slots of the ring, and none is given before that time
  pub behind : AreDueAfter c so_far ring
  pub later : (k : ℕ) (side : Side) (port : ℕ) (s : Turn HeldFrame) →
      1 ≤ port →
      port ≤ last_port →
      network.IsNextOn (c.tables k) (at_switch k so_far) side port s →
      time ≤ given_at (due_at s)
  -- nor was any network used after it
  pub clock : (k : ℕ) (n : Network) → slice_get networks k ≡ Some n → network.IsUntil n time
  pub soon : (ring ≡ []) ⊎ (time ≤ latest_put)

-- a turn is over: it is the next event, and they keep to it too
pub record TurnIsNext (c : Plan) (networks : List Network) (transit : List InTransit) (until : ℕ)
    (so_far : List SwitchEvent) (k : ℕ) (value : Happened) : Type 0 where
  pub departure : Departure
  pub tells : TellsTurn c k value departure
  pub next : (lines : List Line) →
      IsBeforeLine (turn_place k departure.side
      (record { port = departure.port; turn = departure.turn })) lines →
      IsFirstDue c so_far lines (event_at k (Left departure))
  pub given : until ≡ given_at (due_at departure.turn)
  pub ring : List OnCable
  pub keeps : Keeps c networks until ring (event_at k (Left departure) ∷ so_far)
  pub in_transit : AreInTransit c transit ring

-- So it is where the switch that the scan finds gives its turn by the time at which just this one
-- is given, and no cable has a frame of an earlier time.
abbrev pub TurnKeeps : Type 0
TurnKeeps =
    (c : Plan) (so_far : List SwitchEvent) (old networks : List Network) (transit : List InTransit)
    (time until : ℕ) (ring : List OnCable) (f : FirstTurn) (value : Happened) →
    Keeps c old time ring so_far →
    IsFirstFrom 0 old (Some f) →
    f.order < order_without_turn →
    (ring ≡ []) ⊎ (f.order ≤ 2 * time) →
    f.order ≤ 2 * until →
    2 * until ≤ f.order + 1 →
    TurnsAt c networks transit time ring so_far f.switch.0 until value →
    length networks ≡ length old →
    ((k : ℕ) (n : Network) → slice_get networks k ≡ Some n → network.IsUntil n until) →
    TurnIsNext c networks transit until so_far f.switch.0 value

-- ---- a frame arrives

-- The network at the other end of its cable can take the frame at the front of the ring, if no slot
-- is still to end at its time.
abbrev pub FrontCanArrive : Type 0
FrontCanArrive =
    (c : Plan) (so_far : List SwitchEvent) (networks : List Network) (time : ℕ) (r : OnCable)
    (rest : List OnCable) (f : FirstTurn) (v : InTransit) →
    Keeps c networks time (r ∷ rest) so_far →
    IsFirstFrom 0 networks (Some f) →
    2 * time < f.order →
    IsInTransit c v r →
    CanArrive networks v

-- the frame at the front arrived: it is the next event, and they keep to it too
pub record FrontIsNext (c : Plan) (networks : List Network) (transit : List InTransit) (time : ℕ)
    (r : OnCable) (rest : List OnCable) (so_far : List SwitchEvent) (value : Happened) :
    Type 0 where
  pub arrived : ArrivesAt c networks transit time r rest so_far value
  pub next : (lines : List Line) →
      IsBeforeLine (frame_place r) lines →
      IsFirstDue c so_far lines
      (arriving c so_far arrived.at.switch.0 (brought r.side arrived.at.port r.turn))
  pub keeps : Keeps c networks time rest
      (arriving c so_far arrived.at.switch.0 (brought r.side arrived.at.port r.turn) ∷ so_far)
  pub in_transit : AreInTransit c transit rest

-- So it is where no slot was still to end at its time.
abbrev pub FrontKeeps : Type 0
FrontKeeps =
    (c : Plan) (so_far : List SwitchEvent) (old networks : List Network) (transit : List InTransit)
    (time : ℕ) (r : OnCable) (rest : List OnCable) (f : FirstTurn) (value : Happened) →
    Keeps c old time (r ∷ rest) so_far →
    IsFirstFrom 0 old (Some f) →
    2 * time < f.order →
    ArrivesAt c networks transit time r rest so_far value →
    length networks ≡ length old →
    ((k : ℕ) (n : Network) → slice_get networks k ≡ Some n → network.IsUntil n time) →
    ((n : Network) → slice_get networks (switch_of value) ≡ Some n → network.IsQuiet n time) →
    FrontIsNext c networks transit time r rest so_far value

-- a frame of the list arrived: it is the next event, and they keep to it too
pub record LineIsNext (c : Plan) (networks : List Network) (so_far : List SwitchEvent)
    (line : Line) :
    Type 0 where
  pub next : (rest : List Line) →
      IsNextLine c so_far (line ∷ rest) (arriving c so_far line.switch line.arrival) rest
  pub keeps : Keeps c networks line.arrival.time []
      (arriving c so_far line.switch line.arrival ∷ so_far)

-- So it is where no network had a turn to give by its time, and no cable a frame.
abbrev pub LineKeeps : Type 0
LineKeeps =
    (c : Plan) (so_far : List SwitchEvent) (old networks : List Network) (time : ℕ) (line : Line) →
    Keeps c old time [] so_far →
    ((k : ℕ) (n : Network) → slice_get old k ≡ Some n → network.IsQuiet n line.arrival.time) →
    c.far_end line.switch line.arrival.port ≡ None →
    Stands c networks time [] (arriving c so_far line.switch line.arrival ∷ so_far) →
    length networks ≡ length old →
    ((k : ℕ) (n : Network) → slice_get networks k ≡ Some n → network.IsUntil n line.arrival.time) →
    ((n : Network) → slice_get networks line.switch ≡ Some n
    → network.IsQuiet n line.arrival.time) →
    LineIsNext c networks so_far line

-- ---- what comes next

-- no cable has a frame of an earlier time than the turn that stands here in the order of turns
abbrev pub IsEarly : ℕ → ℕ → List OnCable → Type 0
IsEarly order time ring = (ring ≡ []) ⊎ (order ≤ 2 * time)

-- the next event is a turn that is given by then
pub record TurnsNext (c : Plan) (networks : List Network) (transit : List InTransit) (until : ℕ)
    (so_far : List SwitchEvent) (k : ℕ) (value : Happened) : Type 0 where
  pub at : ℕ
  pub in_time : at ≤ until
  pub is : TurnIsNext c networks transit at so_far k value

-- no slot is still to end at the time of the frame at the front, where the first turn stands here
-- in the order of turns
abbrev pub IsFrontNext : List InTransit → ℕ → Type 0
IsFrontNext [] order = ⊥
IsFrontNext (v ∷ behind) order = 2 * (as_given v.departure).end < order

-- the next event is the arrival of the frame at the front
pub record BringsNext (c : Plan) (networks : List Network) (transit : List InTransit) (time : ℕ)
    (ring : List OnCable) (so_far : List SwitchEvent) (value : Happened) : Type 0 where
  pub r : OnCable
  pub rest : List OnCable
  pub are : ring ≡ r ∷ rest
  pub is : FrontIsNext c networks transit time r rest so_far value

-- ---- out of memory

-- a frame arrives next, from the front of the ring, and isn't dropped for its shape
pub record LacksForFront (c : Plan) (ring : List OnCable) (so_far : List SwitchEvent) :
    Type 0 where
  pub r : OnCable
  pub rest : List OnCable
  pub are : ring ≡ r ∷ rest
  pub to : End
  pub next : (lines : List Line) →
      IsBeforeLine (frame_place r) lines →
      IsFirstDue c so_far lines (arriving c so_far to.switch (brought r.side to.port r.turn))
  pub sound : shape_fault (c.tables to.switch) (brought r.side to.port r.turn) ≡ None

-- a turn comes next, and is given by then
pub record LacksForTurn (c : Plan) (until : ℕ) (so_far : List SwitchEvent) (k : ℕ) : Type 0 where
  pub side : Side
  pub gone : PortTurn
  pub in_time : given_at (due_at gone.turn) ≤ until
  pub next : (lines : List Line) →
      IsBeforeLine (turn_place k side gone) lines →
      IsFirstDue c so_far lines (turn_event so_far k side gone)

-- ---- nothing is due

-- nothing is due: a list that has no line left has had all its events
abbrev pub IsNothingDue : Plan → List SwitchEvent → Type 0
IsNothingDue c so_far = (place : List ℕ) (g : SwitchEvent) → IsDue c so_far place g → ⊥

-- ---- nothing has happened

-- New networks and an empty ring keep to no events.
abbrev pub StartKeeps : Type 0
StartKeeps =
    (c : Plan) (networks : List Network) →
    IsPlan c →
    ((k port : ℕ) (e : End) → c.far_end k port ≡ Some e → e.switch < length networks) →
    ((k : ℕ) (n : Network) → slice_get networks k ≡ Some n →
    network.StandsFor (c.tables k) n []) →
    ((k : ℕ) (n : Network) → slice_get networks k ≡ Some n → network.IsUntil n 0) →
    Keeps c networks 0 [] []
