-- What is promised of a network whose tables are admitted, whatever arrives at its switches. Lists
-- have the newest first.
use Rattle.std.specs.Prelude.{◌≡◌, ℕ, ◌*◌, ◌≤◌, true, false, if◌then◌else◌, Some, None, List, [], ◌∷◌, ◌++◌, filter, length, map, max, reverse, slice_get, take}
use Rattle.afdx_frame.specs.declared.link.Side.{Side}
use Rattle.afdx_frame.specs.declared.link.Side.TheVariants.{A, B}
use Rattle.afdx_frame.specs.Sides.{is_side}
use Rattle.afdx_frame.specs.Ports.{last_port}
use Rattle.afdx_config.specs.LawfulStream.{Sending}
use Rattle.afdx_config.specs.Lawful.{IsLawfulSwitch, IsBetweenSystems}
use Rattle.afdx_config.specs.Reading.{has_port}
use Rattle.afdx_config.specs.Rows.{SystemRow, LinkRow, Rows, is_to}
use Rattle.afdx_config.specs.SentList.{Message}
use Rattle.afdx_police.specs.Arrival.{Arrival, names, own}
use Rattle.afdx_police.specs.Shape.{fault_of}
use Rattle.afdx_police.specs.Verdicts.{reason_after}
use Rattle.afdx_port.specs.Schedule.{Turn, AreTurns}
use Rattle.afdx_law_bounds.specs.Outputs.{AreTimed}
use Rattle.afdx_switch.specs.Admitted.{IsAdmittedRun, Passing, accepted_on, accepted_frames, frames_left, AreInTime, IsInTime}
use Rattle.afdx_switch.specs.Switching.{taken_at}
use Rattle.afdx_switch.specs.HeldFrames.{HeldFrame}
use Rattle.afdx_switch.specs.Tables.{rule_of, goes_to, byte_ns_at, entries_at}
use Rattle.afdx_switch.specs.Verdicts.{reason_of, is_lost_at}
use Rattle.afdx_receive.specs.Arrivals.{Arrived, frames_of}
use Rattle.afdx_network.specs.Events.{Event, Came, Left, Admission, Departure, admission_after, turns_at, turns_on}
use Rattle.afdx_law_promises.specs.Ports.{AreItsTurns}
use Rattle.afdx_network.specs.Order.{IsAmong, AreEvents, AreEventsSoFar}
use Rattle.afdx_law_promises.specs.Receptions.{AreReceptions, receptions_at, brought_by, answers_on, answers_by_rules, messages_in}
use Rattle.afdx_switch.specs.Streams.{at_own_port, AreFirstOf, IsFed, IsStreamOf}

-- an arrival after others is judged alone: a frame of a link by its shape and by the window rule
-- over its link's own arrivals on its side; one that names no link by its shape; and where it is
-- accepted, it is lost nowhere
pub record IsJudgedAlone (t : Rows) (past : List Arrival) (x : Arrival) : Type 0 where
  pub by_own : (place : ℕ) (l : LinkRow) →
      slice_get t.links place ≡ Some l →
      names l.vl x.bytes ≡ true →
      reason_of t past x ≡ reason_after (rule_of t l) (own l.vl x.side past) x
  pub unknown :
      ((place : ℕ) (l : LinkRow) → slice_get t.links place ≡ Some l → names l.vl x.bytes ≡ false) →
      reason_of t past x ≡ fault_of None x.port x.bytes
  pub kept : (port : ℕ) → is_lost_at t past x port ≡ false

-- what the receiver of a system makes of what comes to it on a link
pub record IsReceivedAlone (t : Rows) (arrivals : List Arrival) (system : ℕ) (l : LinkRow)
    (came : List Arrived) : Type 0 where
  -- by each side come the link's accepted frames, in order
  pub frames : (side : Side) → map (λ f. f.bytes)
      (filter (λ f. is_side f.side side) (frames_of l.vl came))
      ≡ map (λ x. x.bytes) (accepted_on t l side arrivals)
  -- the answers to them are those of integrity and redundancy on them alone
  pub answers : answers_on t system l.vl came
      ≡ answers_by_rules (1000 * l.skew_us) (has_port t.ports system l.vl) (frames_of l.vl came)

-- the promises
pub record PortsKeepPromises (t : Rows) (arrivals : List Arrival) : Type 0 where
  -- each virtual link's verdicts are the window rule's answer on that link's own arrivals alone
  pub verdicts : (later past : List Arrival) (x : Arrival) →
      arrivals ≡ later ++ x ∷ past →
      IsJudgedAlone t past x
  -- the turns of each port are the schedule of its entries
  pub turns : (side : Side) (port : ℕ) →
      AreItsTurns t side port arrivals (turns_at t side port arrivals)
  -- from each port that a link goes to leave exactly its accepted frames, byte for byte and in
  -- order, and from others none
  pub frames : (side : Side) (port place : ℕ) (l : LinkRow) →
      slice_get t.links place ≡ Some l →
      frames_left l.vl (turns_at t side port arrivals)
      ≡ (if goes_to t l port then accepted_frames t l side arrivals else [])
  -- each of them leaves within the link's latency
  pub in_time : (side : Side) (port place : ℕ) (l : LinkRow) →
      slice_get t.links place ≡ Some l →
      AreInTime l (turns_at t side port arrivals)
  -- what a receiver delivers on a link is the integrity and redundancy rules' answer on that link's
  -- arrivals there alone
  pub receptions : (system place : ℕ) (s : SystemRow) (l : LinkRow) (came : List Arrived) →
      slice_get t.systems system ≡ Some s →
      slice_get t.links place ≡ Some l →
      is_to system l ≡ true →
      AreReceptions t s.port arrivals came →
      IsReceivedAlone t arrivals system l came

abbrev pub PortsAreAsPromised : Type 0
PortsAreAsPromised = (t : Rows) (arrivals : List Arrival) → IsAdmittedRun t arrivals →
    PortsKeepPromises t arrivals

-- where a port has given only some of its turns, the frames of a link that left it are the first of
-- those
abbrev pub LeftSoFarAreFirst : Type 0
LeftSoFarAreFirst = (t : Rows) (arrivals : List Arrival) (side : Side) (port place : ℕ)
    (l : LinkRow) (turns : List (Turn HeldFrame)) →
    IsAdmittedRun t arrivals →
    slice_get t.links place ≡ Some l →
    AreTurns (byte_ns_at t port) (entries_at t side port arrivals) turns →
    (rest : List Passing) × ((if goes_to t l port then accepted_frames t l side arrivals else [])
    ≡ frames_left l.vl turns ++ rest)

-- what comes to a port is one list, which is computed
abbrev pub ReceptionsAreOne : Type 0
ReceptionsAreOne = (t : Rows) (port : ℕ) (arrivals : List Arrival) (came : List Arrived) →
    AreReceptions t port arrivals came → came ≡ receptions_at t port arrivals

abbrev pub ReceptionsExist : Type 0
ReceptionsExist = (t : Rows) (port : ℕ) (arrivals : List Arrival) → IsAdmittedRun t arrivals →
    AreReceptions t port arrivals (receptions_at t port arrivals)

-- in the one order of all events, what they bring to a port is that list
abbrev pub EventsBringReceptions : Type 0
EventsBringReceptions = (t : Rows) (arrivals : List Arrival) (events : List Event) (port : ℕ) →
    IsLawfulSwitch t → AreTimed arrivals → 1 ≤ port → port ≤ last_port →
    AreEvents t arrivals events →
    AreReceptions t port arrivals (brought_by port events)

-- alone: with two lists in which a link has equal own arrivals on a side, it has equal verdicts and
-- equal frames at each port there
pub record IsApart (t : Rows) (arrivals others : List Arrival) (side : Side)
    (l : LinkRow) : Type 0 where
  pub verdicts : (x : Arrival) → x.side ≡ side → names l.vl x.bytes ≡ true → reason_of t arrivals x
      ≡ reason_of t others x
  pub frames : (port : ℕ) → frames_left l.vl (turns_at t side port arrivals)
      ≡ frames_left l.vl (turns_at t side port others)

abbrev pub LinksAreApart : Type 0
LinksAreApart = (t : Rows) (arrivals others : List Arrival) (side : Side) (place : ℕ)
    (l : LinkRow) → IsAdmittedRun t arrivals → IsAdmittedRun t others → slice_get t.links place
    ≡ Some l →
    own l.vl side arrivals ≡ own l.vl side others →
    IsApart t arrivals others side l

-- End to end, also where a network fails in the middle: where the arrivals on each side are the
-- first frames of one lawful stream of a link, each receiver of the link delivers exactly the
-- messages to its UDP ports, each once and in order, as far as one of the sides has come.
abbrev pub MessagesComeSoFar : Type 0
MessagesComeSoFar = (t : Rows) (arrivals : List Arrival) (system place : ℕ) (s : SystemRow)
    (l : LinkRow) (messages : List Message) (stream : List Sending) (came : List Arrived) →
    IsAdmittedRun t arrivals →
    slice_get t.systems system ≡ Some s →
    slice_get t.links place ≡ Some l →
    is_to system l ≡ true →
    IsBetweenSystems t system l →
    IsStreamOf t l messages stream → ((side : Side) →
    AreFirstOf side stream (at_own_port t l side arrivals)) →
    AreReceptions t s.port arrivals came →
    reverse (messages_in (answers_on t system l.vl came))
    ≡ filter (λ m. has_port t.ports system l.vl m.udp)
    (take (max (length (at_own_port t l A arrivals))
    (length (at_own_port t l B arrivals))) messages)

-- End to end: where both sides are fed with one lawful stream of a link, each receiver of the link
-- delivers exactly the messages of the sent list whose UDP port is configured there, each once and
-- in order.
abbrev pub MessagesComeOnce : Type 0
MessagesComeOnce = (t : Rows) (arrivals : List Arrival) (system place : ℕ) (s : SystemRow)
    (l : LinkRow) (messages : List Message) (stream : List Sending) (came : List Arrived) →
    IsAdmittedRun t arrivals →
    slice_get t.systems system ≡ Some s →
    slice_get t.links place ≡ Some l →
    is_to system l ≡ true →
    IsBetweenSystems t system l →
    IsStreamOf t l messages stream →
    ((side : Side) → IsFed t l stream side arrivals) →
    AreReceptions t s.port arrivals came →
    reverse (messages_in (answers_on t system l.vl came))
    ≡ filter (λ m. has_port t.ports system l.vl m.udp) messages

-- what became of an arrival is as promised, and no copy of it is lost
pub record IsAsPromised (t : Rows) (arrivals : List Arrival) (c : Admission) : Type 0 where
  pub later : List Arrival
  pub past : List Arrival
  pub came : arrivals ≡ later ++ c.arrival ∷ past
  pub is : c ≡ admission_after t past c.arrival
  pub judged : IsJudgedAlone t past c.arrival
  pub lost : c.lost ≡ []

-- the promises, of all events in their one order
pub record EventsKeepPromises (t : Rows) (arrivals : List Arrival)
    (events : List Event) : Type 0 where
  pub admissions : (c : Admission) → IsAmong (Came c) events → IsAsPromised t arrivals c
  -- each turn is a slot, which ends within the latency of the link whose frame it is
  pub departures : (d : Departure) → IsAmong (Left d) events → IsInTime t d.turn
  -- those of a port are its schedule, by which exactly the accepted frames of each link that goes
  -- there leave it
  pub turns : (side : Side) (port : ℕ) →
      1 ≤ port →
      port ≤ last_port →
      taken_at port (turns_on side events) ≡ turns_at t side port arrivals
  -- and they bring it what its system receives
  pub receptions : (port : ℕ) →
      1 ≤ port →
      port ≤ last_port →
      AreReceptions t port arrivals (brought_by port events)

abbrev pub EventsAreAsPromised : Type 0
EventsAreAsPromised = (t : Rows) (arrivals : List Arrival) (events : List Event) →
    IsAdmittedRun t arrivals → AreEvents t arrivals events → EventsKeepPromises t arrivals events

-- the promises so far, of the events up to the last arrival: what has left a port of a link's
-- frames are the first of its accepted ones
pub record EventsSoFarKeepPromises (t : Rows) (arrivals : List Arrival)
    (events : List Event) : Type 0 where
  pub admissions : (c : Admission) → IsAmong (Came c) events → IsAsPromised t arrivals c
  pub departures : (d : Departure) → IsAmong (Left d) events → IsInTime t d.turn
  pub frames : (side : Side) (port place : ℕ) (l : LinkRow) →
      1 ≤ port →
      port ≤ last_port →
      slice_get t.links place ≡ Some l →
      (rest : List Passing) × ((if goes_to t l port then accepted_frames t l side arrivals else [])
      ≡ frames_left l.vl (taken_at port (turns_on side events)) ++ rest)

abbrev pub EventsSoFarAreAsPromised : Type 0
EventsSoFarAreAsPromised = (t : Rows) (arrivals : List Arrival) (events : List Event) →
    IsAdmittedRun t arrivals → AreEventsSoFar t arrivals events →
    EventsSoFarKeepPromises t arrivals events
