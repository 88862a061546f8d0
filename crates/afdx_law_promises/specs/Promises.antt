-- What the text of a replay promises where the tables are admitted. Lists of arrivals and of
-- lines have the newest first.
--
-- For every admitted configuration and every timed frame list, each virtual link's verdicts, and
-- its frames that leave each switch port, in order, are the window rule's answer on that link's
-- own arrivals alone; every accepted frame leaves each of its ports within the link's configured
-- latency, and no sooner than its time on the wire after it came; and what a receiver delivers on a
-- link is the integrity and redundancy rules' answer on that link's arrivals there alone.
use Rattle.std.specs.Prelude.{◌≡◌, ℕ, ◌+◌, ◌*◌, ◌<◌, ◌≤◌, true, false, if◌then◌else◌, Some, None, max, List, [], ◌++◌, filter, length, map, reverse, slice_get, take}
use Rattle.afdx_frame.specs.declared.link.Side.{Side}
use Rattle.afdx_frame.specs.declared.link.Side.TheVariants.{A, B}
use Rattle.afdx_frame.specs.Ports.{last_port}
use Rattle.afdx_frame.specs.Regulation.{wire_of}
use Rattle.afdx_config.specs.LawfulStream.{Sending}
use Rattle.afdx_config.specs.Reading.{has_port, listener_at}
use Rattle.afdx_config.specs.Lawful.{IsLawfulSwitch, IsBetweenSystems}
use Rattle.afdx_config.specs.Rows.{SystemRow, LinkRow, Rows, is_to}
use Rattle.afdx_config.specs.SentList as sent
use Rattle.afdx_police.specs.Arrival.{Arrival, names, own}
use Rattle.afdx_police.specs.Shape.{fault_of}
use Rattle.afdx_law_bounds.specs.Outputs.{AreTimed}
use Rattle.afdx_receive.specs.Answers.{Answer}
use Rattle.afdx_receive.specs.Arrivals.{frames_of}
use Rattle.afdx_switch.specs.Admitted.{IsAdmittedRun, Passing, passing}
use Rattle.afdx_switch.specs.Tables.{rule_of, goes_to, byte_ns_at}
use Rattle.afdx_network.specs.Order.{events_of, events_so_far}
use Rattle.afdx_law_promises.specs.Lines.{Line, Verdict, Received, Judged, Leaving, IsIn, judged_in, arrivals_judged, verdicts_on, accepted_in, left_in, frames_at, came_at, answers_told, messages_told, told_by}
use Rattle.afdx_switch.specs.Streams.{IsStreamOf}
use Rattle.afdx_law_promises.specs.Receptions.{ComeInOrder, answers_by_rules}
use Rattle.afdx_switch.specs.Streams.{at_own_port, AreFirstOf, IsFed}
use Rattle.afdx_law_promises.specs.WindowRule.{AreByWindowRule}

-- ---- each virtual link's verdicts are the window rule's answer on that link's own arrivals alone

pub record AreVerdicts (t : Rows) (arrivals : List Arrival) (lines : List Line) : Type 0 where
  -- a verdict on each arrival, in order
  pub each : arrivals_judged (judged_in lines) ≡ arrivals
  -- those on a link's own arrivals by the window rule
  pub own : (side : Side) (place : ℕ) (l : LinkRow) →
      slice_get t.links place ≡ Some l →
      AreByWindowRule (rule_of t l) (verdicts_on l.vl side lines)
  -- that on a frame which names no link by its shape
  pub unknown : (v : Judged) →
      IsIn v (judged_in lines) →
      ((place : ℕ) (l : LinkRow) → slice_get t.links place ≡ Some l →
      names l.vl v.arrival.bytes ≡ false) →
      v.reason ≡ fault_of None v.arrival.port v.arrival.bytes

-- ---- and its frames that leave each switch port, in order

-- those that are to leave: the accepted ones, byte for byte, if the link goes there, else none
abbrev pub frames_due : Rows → LinkRow → Side → ℕ → List Line → List Passing
frames_due t l side port lines =
    if goes_to t l port then map passing (accepted_in (verdicts_on l.vl side lines)) else []

abbrev pub AreFrames : Rows → List Line → Type 0
AreFrames t lines = (side : Side) (port place : ℕ) (l : LinkRow) → 1 ≤ port → port ≤ last_port →
    slice_get t.links place ≡ Some l →
    frames_at l.vl side port lines ≡ frames_due t l side port lines

-- ---- every accepted frame leaves each of its ports within the link's configured latency

-- a D line: it is of an accepted frame, of a link that goes to that port, and in time: not before
-- the frame came and had its time on the wire
pub record LeavesInTime (t : Rows) (lines : List Line) (d : Leaving) : Type 0 where
  pub arrival : Arrival
  pub accepted : IsIn (Verdict (record { arrival = arrival; reason = None })) lines
  pub frame : d.frame ≡ passing arrival
  pub side : d.side ≡ arrival.side
  pub place : ℕ
  pub link : LinkRow
  pub stands : slice_get t.links place ≡ Some link
  pub named : names link.vl arrival.bytes ≡ true
  pub goes : goes_to t link d.port ≡ true
  pub within : d.time ≤ arrival.time + 1000 * link.latency_us
  pub no_sooner : arrival.time + wire_of (length arrival.bytes) * byte_ns_at t d.port ≤ d.time

abbrev pub AllLeaveInTime : Rows → List Line → Type 0
AllLeaveInTime t lines = (d : Leaving) → IsIn d (left_in lines) → LeavesInTime t lines d

-- ---- and what a receiver delivers on a link is the integrity and redundancy rules' answer on
-- that link's arrivals there alone

-- an M or X line: it is of a frame that left the port of its system
pub record IsHeard (t : Rows) (lines : List Line) (d : Leaving) (system : ℕ) : Type 0 where
  pub left : IsIn d (left_in lines)
  pub at : listener_at t d.port ≡ Some system

pub record AreReceived (t : Rows) (lines : List Line) : Type 0 where
  pub heard : (d : Leaving) (system : ℕ) (answer : Answer) →
      IsIn (Received d system answer) lines →
      IsHeard t lines d system
  -- what comes to a port comes by time, at one time side A first
  pub in_order : (port : ℕ) → ComeInOrder (came_at port lines)
  -- the answers to a link's frames
  pub answers : (system place : ℕ) (s : SystemRow) (l : LinkRow) →
      slice_get t.systems system ≡ Some s →
      system < t.own →
      slice_get t.links place ≡ Some l →
      is_to system l ≡ true →
      answers_told system l.vl lines
      ≡ answers_by_rules (1000 * l.skew_us) (has_port t.ports system l.vl)
      (frames_of l.vl (came_at s.port lines))

-- ---- alone

-- two texts tell the same of a link on a side: equal verdicts, and equal frames at each port
pub record TellSame (l : LinkRow) (side : Side) (lines others : List Line) : Type 0 where
  pub verdicts : verdicts_on l.vl side lines ≡ verdicts_on l.vl side others
  pub frames : (port : ℕ) →
      1 ≤ port →
      port ≤ last_port →
      frames_at l.vl side port lines ≡ frames_at l.vl side port others

-- as any other list in which the link has equal own arrivals on that side, whatever else it holds
abbrev pub AreAlone : Rows → List Arrival → List Line → Type 0
AreAlone t arrivals lines =
    (others : List Arrival) (other_lines : List Line) (side : Side) (place : ℕ) (l : LinkRow) →
    AreVerdicts t others other_lines →
    AreFrames t other_lines →
    slice_get t.links place ≡ Some l →
    own l.vl side arrivals ≡ own l.vl side others →
    TellSame l side lines other_lines

-- ---- the promises

-- of the lines that tell of these arrivals and of all that leaves
pub record KeepsPromises (t : Rows) (arrivals : List Arrival) (lines : List Line) : Type 0 where
  pub verdicts : AreVerdicts t arrivals lines
  pub frames : AreFrames t lines
  pub latency : AllLeaveInTime t lines
  pub receptions : AreReceived t lines
  pub isolation : AreAlone t arrivals lines

-- of the lines up to the last arrival: what has left a port is a beginning of the promised frames
abbrev pub AreFirstFrames : Rows → List Line → Type 0
AreFirstFrames t lines = (side : Side) (port place : ℕ) (l : LinkRow) → 1 ≤ port →
    port ≤ last_port → slice_get t.links place ≡ Some l →
    (later : List Passing)
    × (frames_due t l side port lines ≡ later ++ frames_at l.vl side port lines)

pub record KeepsPromisesSoFar (t : Rows) (arrivals : List Arrival) (lines : List Line) :
    Type 0 where
  pub verdicts : AreVerdicts t arrivals lines
  pub frames : AreFirstFrames t lines
  pub latency : AllLeaveInTime t lines
  pub receptions : AreReceived t lines

-- ---- a lawful stream is accepted

-- Where the arrivals on a side that name a link and come at its sender's port are the first frames
-- of a lawful stream of the link, the verdict on each of them is accept, whatever else comes, also
-- under this link's name at other ports.
abbrev pub StreamsAreAccepted : Rows → List Arrival → List Line → Type 0
StreamsAreAccepted t arrivals lines =
    (side : Side) (place : ℕ) (l : LinkRow) (messages : List sent.Message)
    (stream : List Sending) →
    slice_get t.links place ≡ Some l →
    IsStreamOf t l messages stream →
    AreFirstOf side stream (at_own_port t l side arrivals) →
    (v : Judged) →
    IsIn v (verdicts_on l.vl side lines) →
    (rule_of t l).port ≡ v.arrival.port →
    v.reason ≡ None

-- ---- exactly once

-- Where both sides are fed with one lawful stream of a link, the M lines of each receiver of the
-- link are exactly the messages of the sent list to its UDP ports, each once and in order.
abbrev pub EachIsToldOnce : Rows → List Arrival → List Line → Type 0
EachIsToldOnce t arrivals lines =
    (system place : ℕ) (s : SystemRow) (l : LinkRow)
    (messages : List sent.Message) (stream : List Sending) →
    slice_get t.systems system ≡ Some s →
    slice_get t.links place ≡ Some l →
    is_to system l ≡ true →
    IsBetweenSystems t system l →
    IsStreamOf t l messages stream →
    ((side : Side) → IsFed t l stream side arrivals) →
    reverse (messages_told system l.vl lines)
    ≡ filter (λ m. has_port t.ports system l.vl m.udp) messages

-- the frames of a link's stream that came on the side where more of them did
abbrev pub most_come : Rows → LinkRow → List Arrival → ℕ
most_come t l arrivals =
    max (length (at_own_port t l A arrivals)) (length (at_own_port t l B arrivals))

-- also where a network fails in the middle: as far as one of the sides has come
abbrev pub EachIsToldOnceSoFar : Rows → List Arrival → List Line → Type 0
EachIsToldOnceSoFar t arrivals lines =
    (system place : ℕ) (s : SystemRow) (l : LinkRow)
    (messages : List sent.Message) (stream : List Sending) →
    slice_get t.systems system ≡ Some s →
    slice_get t.links place ≡ Some l →
    is_to system l ≡ true →
    IsBetweenSystems t system l →
    IsStreamOf t l messages stream →
    ((side : Side) → AreFirstOf side stream (at_own_port t l side arrivals)) →
    reverse (messages_told system l.vl lines)
    ≡ filter (λ m. has_port t.ports system l.vl m.udp) (take (most_come t l arrivals) messages)

-- ---- the laws, of the lines of all events in their one order, and of those up to the last arrival

abbrev pub told : Rows → List Arrival → List Line
told t arrivals = told_by t (events_of t arrivals)

abbrev pub told_so_far : Rows → List Arrival → List Line
told_so_far t arrivals = told_by t (events_so_far t arrivals)

abbrev pub PromisesAreKept : Type 0
PromisesAreKept = (t : Rows) (arrivals : List Arrival) → IsAdmittedRun t arrivals →
    KeepsPromises t arrivals (told t arrivals)

abbrev pub PromisesAreKeptSoFar : Type 0
PromisesAreKeptSoFar = (t : Rows) (arrivals : List Arrival) → IsAdmittedRun t arrivals →
    KeepsPromisesSoFar t arrivals (told_so_far t arrivals)

-- of any tables, admitted or not
abbrev pub StreamsAreToldAccepted : Type 0
StreamsAreToldAccepted = (t : Rows) (arrivals : List Arrival) → IsLawfulSwitch t →
    AreTimed arrivals →
    StreamsAreAccepted t arrivals (told t arrivals)

abbrev pub StreamsAreToldAcceptedSoFar : Type 0
StreamsAreToldAcceptedSoFar = (t : Rows) (arrivals : List Arrival) → IsLawfulSwitch t →
    AreTimed arrivals →
    StreamsAreAccepted t arrivals (told_so_far t arrivals)

abbrev pub MessagesAreToldOnce : Type 0
MessagesAreToldOnce = (t : Rows) (arrivals : List Arrival) → IsAdmittedRun t arrivals →
    EachIsToldOnce t arrivals (told t arrivals)

abbrev pub MessagesAreToldOnceSoFar : Type 0
MessagesAreToldOnceSoFar = (t : Rows) (arrivals : List Arrival) → IsAdmittedRun t arrivals →
    EachIsToldOnceSoFar t arrivals (told t arrivals)
