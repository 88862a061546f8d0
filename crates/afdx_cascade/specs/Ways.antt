-- A link's way through a cascade, from its first switch to one of its last. Lists have the newest
-- first, a way the last switch.
use Rattle.std.specs.Prelude.{◌≡◌, ℕ, ◌+◌, true, List, [], ◌∷◌, map}
use Rattle.afdx_frame.specs.declared.link.Side.{Side}
use Rattle.afdx_police.specs.Arrival.{Arrival, arrival_with, own}
use Rattle.afdx_port.specs.Schedule.{Turn}
use Rattle.afdx_switch.specs.HeldFrames.{HeldFrame}
use Rattle.afdx_switch.specs.Hops.{AreCopies, AreFirstCopies}
use Rattle.afdx_switch.specs.Tables.{goes_to}
use Rattle.afdx_cascade.specs.Cables.{Hop, IsHop, Gives, GoesOn, rule_at, accepted_at, latency_at, all_turns, brought_by, named}

-- the link comes to this switch by way of these before it
abbrev pub IsWay : Side → Hop → List Hop → Type 0
IsWay side k [] = IsHop k
IsWay side k (j ∷ before) = IsHop k × GoesOn side j k × IsWay side j before

-- where the way begins
abbrev pub first_of : Hop → List Hop → Hop
first_of k [] = k
first_of k (j ∷ before) = first_of j before

-- the sum of the latencies of these, in ns
abbrev pub latency_of : List Hop → ℕ
latency_of [] = 0
latency_of (j ∷ before) = latency_of before + latency_at j

-- each cable of the way has brought all that its port gives
abbrev pub IsWhole : (side : Side) (k : Hop) (before : List Hop) → IsWay side k before → Type 0
IsWhole side k [] way = Unit {0}
IsWhole side k (j ∷ before) way =
    (way.1.turns ≡ all_turns j side way.1.port) × IsWhole side j before way.2

-- Accepted once is accepted everywhere: what a switch of the way accepts is, in order, the first of
-- what the first switch accepted, each frame at most the sum of the latencies up to there after it
-- arrived there.
abbrev pub FirstAreAccepted : Type 0
FirstAreAccepted =
    (side : Side) (k : Hop) (before : List Hop) →
    IsWay side k before →
    AreFirstCopies (latency_of before) (accepted_at (first_of k before) side) (accepted_at k side)

-- and from its ports they leave
abbrev pub FirstLeave : Type 0
FirstLeave =
    (side : Side) (k : Hop) (before : List Hop) (port to : ℕ) (turns : List (Turn HeldFrame)) →
    IsWay side k before →
    Gives k side port turns →
    AreFirstCopies (latency_of (k ∷ before)) (accepted_at (first_of k before) side)
    (named k.link.vl (brought_by side to turns))

-- End to end: by all turns, from each port on the way leave exactly the frames that the first
-- switch accepted, byte for byte and in order, each at most the sum of the latencies up to there
-- after it arrived there.
abbrev pub AllAreAccepted : Type 0
AllAreAccepted =
    (side : Side) (k : Hop) (before : List Hop) → (way : IsWay side k before) →
    IsWhole side k before way →
    AreCopies (latency_of before) (accepted_at (first_of k before) side) (accepted_at k side)

abbrev pub AllLeave : Type 0
AllLeave =
    (side : Side) (k : Hop) (before : List Hop) (port to : ℕ) → (way : IsWay side k before) →
    IsWhole side k before way →
    goes_to k.tables k.link port ≡ true →
    AreCopies (latency_of (k ∷ before)) (accepted_at (first_of k before) side)
    (named k.link.vl (brought_by side to (all_turns k side port)))

-- an arrival but for its tag, and the bytes of arrivals, in their order
abbrev pub untagged : Arrival → Arrival
untagged x = arrival_with 0 x.time x.side x.port x.bytes

abbrev pub bytes_of : List Arrival → List (List ℕ)
bytes_of arrivals = map (λ x. x.bytes) arrivals

-- the link has equal frames in equal order at these two switches, and at each port to which it goes
-- there; they may come at other times
pub record HasSameFrames (side : Side) (k m : Hop) : Type 0 where
  pub accepted : bytes_of (accepted_at k side) ≡ bytes_of (accepted_at m side)
  pub leave : (port other to : ℕ) →
      goes_to k.tables k.link port ≡ true →
      goes_to m.tables m.link other ≡ true →
      bytes_of (named k.link.vl (brought_by side to (all_turns k side port)))
      ≡ bytes_of (named m.link.vl (brought_by side to (all_turns m side other)))

-- Alone, end to end: where two ways of a link begin alike, with one rule and own arrivals that are
-- equal but for their tags, each switch of the one has the frames that each of the other has,
-- whatever else arrives at any switch.
abbrev pub FramesAreAlone : Type 0
FramesAreAlone =
    (side : Side) (k m : Hop) (before others : List Hop) →
    (way : IsWay side k before) →
    IsWhole side k before way →
    (also : IsWay side m others) →
    IsWhole side m others also →
    rule_at (first_of k before) ≡ rule_at (first_of m others) →
    map untagged (own (first_of k before).link.vl side (first_of k before).arrivals)
    ≡ map untagged (own (first_of m others).link.vl side (first_of m others).arrivals) →
    HasSameFrames side k m
