-- A link at two switches of a cascade, of which a cable brings the frames of the one to the other.
-- Lists have the newest first.
use Rattle.std.specs.Prelude.{◌≡◌, ℕ, ◌+◌, ◌*◌, ◌≤◌, true, Some, None, List, ◌∷◌, ◌++◌, filter, map, slice_get}
use Rattle.afdx_frame.specs.declared.link.Side.{Side}
use Rattle.afdx_config.specs.Rows.{LinkRow, Rows}
use Rattle.afdx_police.specs.Arrival.{Arrival, arrival_with, names}
use Rattle.afdx_police.specs.Rule.{Rule}
use Rattle.afdx_port.specs.Schedule.{Turn, AreTurns}
use Rattle.afdx_law_bounds.specs.Outputs.{AreTimed}
use Rattle.afdx_switch.specs.Admitted.{IsAdmittedRun, accepted_on, slots}
use Rattle.afdx_switch.specs.HeldFrames.{HeldFrame}
use Rattle.afdx_switch.specs.Hops.{AreCopies, AreFirstCopies}
use Rattle.afdx_switch.specs.Tables.{rule_of, goes_to, byte_ns_at, entries_at}
use Rattle.afdx_switch.specs.Verdicts.{reason_of}
use Rattle.afdx_network.specs.Events.{turns_at}
use Rattle.afdx_law_promises.specs.Sent.{arrivals_at}

-- ---- one switch

-- a link at a switch: the switch's tables, the link's row there, and all that arrived at the switch
-- on both sides
pub record Hop : Type 0 where
  pub tables : Rows
  pub link : LinkRow
  pub arrivals : List Arrival

-- the row stands in the tables, which are admitted, and the times of the arrivals don't decrease
pub record IsHop (h : Hop) : Type 0 where
  pub place : ℕ
  pub stands : slice_get h.tables.links place ≡ Some h.link
  pub run : IsAdmittedRun h.tables h.arrivals

-- how the link is filtered and policed there
abbrev pub rule_at : Hop → Rule
rule_at h = rule_of h.tables h.link

-- those of its arrivals on a side that are accepted there
abbrev pub accepted_at : Hop → Side → List Arrival
accepted_at h side = accepted_on h.tables h.link side h.arrivals

-- its latency there, in ns
abbrev pub latency_at : Hop → ℕ
latency_at h = 1000 * h.link.latency_us

-- the link goes to this output port, which has given these turns so far
pub record Gives (h : Hop) (side : Side) (port : ℕ) (turns : List (Turn HeldFrame)) : Type 0 where
  pub goes : goes_to h.tables h.link port ≡ true
  pub are : AreTurns
      (byte_ns_at h.tables port) (entries_at h.tables side port h.arrivals) turns

-- all of its turns
abbrev pub all_turns : Hop → Side → ℕ → List (Turn HeldFrame)
all_turns h side port = turns_at h.tables side port h.arrivals

-- ---- a cable

-- the frame of a slot arrives when the slot ends, byte for byte, at a port of the next switch on
-- the same side, under the same tag
abbrev pub brought : Side → ℕ → Turn HeldFrame → Arrival
brought side port s = arrival_with s.entry.item.tag s.end side port s.entry.item.bytes

-- what a cable brings from a port that gave these turns: each frame that left, and none that was
-- dropped for its age
abbrev pub brought_by : Side → ℕ → List (Turn HeldFrame) → List Arrival
brought_by side port turns = map (brought side port) (slots turns)

-- those that name a link
abbrev pub named : ℕ → List Arrival → List Arrival
named vl arrivals = filter (λ x. names vl x.bytes) arrivals

-- the row of the next switch has the same contract, with a jitter that has room for the latency, in
-- us
pub record IsNextRow (before next : LinkRow) : Type 0 where
  pub vl : next.vl ≡ before.vl
  pub bag_ms : next.bag_ms ≡ before.bag_ms
  pub lmin : next.lmin ≡ before.lmin
  pub lmax : next.lmax ≡ before.lmax
  pub policing : next.policing ≡ before.policing
  pub jitter : before.jitter_us + before.latency_us ≤ next.jitter_us

-- a link goes on from one switch to the next: what arrives there on a side, at the port where its
-- frames come in, is what a cable brings from a port of the switch before
pub record GoesOn (side : Side) (j k : Hop) : Type 0 where
  pub port : ℕ
  pub turns : List (Turn HeldFrame)
  pub gives : Gives j side port turns
  pub brings : arrivals_at side (rule_at k).port k.arrivals
      ≡ brought_by side (rule_at k).port turns
  pub row : IsNextRow j.link k.link

-- ---- the laws

-- What a cable brings comes in the order of time.
abbrev pub CablesBringInOrder : Type 0
CablesBringInOrder =
    (h : Hop) (side : Side) (port to : ℕ) (turns : List (Turn HeldFrame)) →
    Gives h side port turns →
    AreTimed (brought_by side to turns)

-- From a port leave, in order, the first of the link's accepted frames, each at most the latency
-- after it arrived.
abbrev pub FirstFramesLeave : Type 0
FirstFramesLeave =
    (h : Hop) (side : Side) (port to : ℕ) (turns : List (Turn HeldFrame)) →
    IsHop h →
    Gives h side port turns →
    AreFirstCopies (latency_at h) (accepted_at h side)
    (named h.link.vl (brought_by side to turns))

-- and all of them by all of its turns
abbrev pub AllFramesLeave : Type 0
AllFramesLeave =
    (h : Hop) (side : Side) (port to : ℕ) →
    IsHop h →
    goes_to h.tables h.link port ≡ true →
    AreCopies (latency_at h) (accepted_at h side)
    (named h.link.vl (brought_by side to (all_turns h side port)))

-- what comes over a cable is accepted
pub record IsAcceptedAgain (side : Side) (j k : Hop) : Type 0 where
  -- no frame of the link that it brings is dropped
  pub none_dropped : (later past : List Arrival) (x : Arrival) →
      k.arrivals ≡ later ++ x ∷ past →
      x.side ≡ side →
      (rule_at k).port ≡ x.port →
      names k.link.vl x.bytes ≡ true →
      reason_of k.tables past x ≡ None
  -- those are the accepted ones there, and no others
  pub accepted : accepted_at k side ≡ named k.link.vl (arrivals_at side (rule_at k).port k.arrivals)
  -- they are the first of those that the switch before accepted
  pub copies : AreFirstCopies (latency_at j) (accepted_at j side) (accepted_at k side)

-- Accepted once is accepted at the next switch, whatever else arrives there: frames of other links,
-- and frames under the link's name at other ports.
abbrev pub AcceptedIsAcceptedAgain : Type 0
AcceptedIsAcceptedAgain =
    (side : Side) (j k : Hop) → IsHop j → IsHop k → GoesOn side j k → IsAcceptedAgain side j k
