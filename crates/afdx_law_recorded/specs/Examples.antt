-- Examples: a link of 64-byte frames, one a millisecond, that goes to a system within 17 us and
-- with a skew of a millisecond. Messages are sent on both networks. Lists have the newest first.
use Rattle.std.specs.Prelude.{◌≡◌, ℕ, ◌+◌, Option, None, Some, List, [], ◌∷◌, length, reverse}
use Rattle.afdx_frame.specs.declared.link.Policing.TheVariants.{Frame}
use Rattle.afdx_frame.specs.declared.link.Side.{Side}
use Rattle.afdx_frame.specs.declared.link.Side.TheVariants.{A, B}
use Rattle.afdx_config.specs.SentList.{Message}
use Rattle.afdx_police.specs.Arrival.{Arrival, arrival_with}
use Rattle.afdx_police.specs.Rule.{rule_with}
use Rattle.afdx_conform.specs.Leeway.{Leeway}
use Rattle.afdx_conform.specs.Leeways.{leeway_with}
use Rattle.afdx_conform.specs.Streams.{Gone, Terms}
use Rattle.afdx_receive.specs.Delivery.{delivered}
use Rattle.afdx_receive.specs.Integrity.{Incoming}
use Rattle.afdx_lawful.specs.Judged.{cut_off}
use Rattle.afdx_lawful.specs.Nearness.{hello, is_open}
use Rattle.afdx_lawful.specs.Sources.{Came, Source, Way}
use Rattle.afdx_lawful.specs.Worked.{a0, a1, b0, b1, on_a, on_b, source}
use Rattle.afdx_law_recorded.specs.OneSide.{AreItsArrivals, AreOfOneLink, IsQuietOn, IsShown}
use Rattle.afdx_law_recorded.specs.Pairs.{AreAwaited, IsQuietSource, NoneIsCut}
use Rattle.afdx_law_recorded.specs.Receivers.{AreHeard, IsWayTo, heard_as, messages_sent}

-- exact stamps and clocks, and so much that a frame may take inside beyond its latency, in ns
abbrev pub options : ℕ → Leeway
options inner = leeway_with 0 0 0 inner 0 None

-- the source, and its link's stream on either side, where recordings end at this moment
abbrev pub source_until : ℕ → ℕ → Source
source_until inner until = source (options inner) None until

abbrev pub stream_until : ℕ → ℕ → Terms
stream_until inner until = record {
  rule = rule_with 1 1 1 64 64 500 Frame;
  latency_ns = 17000;
  byte_ns = 80;
  by = options inner;
  until = until;
}

-- the copies on B are sent so much later than those on A
abbrev pub both_sent : ℕ → List Came
both_sent later =
    on_b 5 (1000000 + later) b1 ∷ on_a 4 1000000 a1 ∷ on_b 3 later b0 ∷ on_a 1 0 a0 ∷ []

-- the link's own arrivals on each side: on A one came at a wrong port, too
abbrev pub both_came : ℕ → Side → List Arrival
both_came later A =
    arrival_with 4 1000000 A 1 a1 ∷ arrival_with 2 7 A 2 a0 ∷ arrival_with 1 0 A 1 a0 ∷ []
both_came later B = arrival_with 5 (1000000 + later) B 1 b1 ∷ arrival_with 3 later B 1 b0 ∷ []

-- what left: on A as soon as it can, on B as late as it may
abbrev pub gone : ℕ → ℕ → List ℕ → Gone
gone number time bytes = record { number = number; time = time; bytes = bytes }

abbrev pub both_left : ℕ → Side → List Gone
both_left later A = gone 3 1005760 a1 ∷ gone 1 5760 a0 ∷ []
both_left later B = gone 4 (1017000 + later) b1 ∷ gone 2 (17000 + later) b0 ∷ []

-- and as it comes to the receiver; the way there
abbrev pub heard_on : ℕ → Side → ℕ → List ℕ → Incoming
heard_on number side time bytes = heard_as 1 side (gone number time bytes)

abbrev pub both_heard : ℕ → List Incoming
both_heard later =
    heard_on 4 B (1017000 + later) b1 ∷ heard_on 2 B (17000 + later) b0
    ∷ heard_on 3 A 1005760 a1 ∷ heard_on 1 A 5760 a0 ∷ []

abbrev pub way_with : ℕ → Way
way_with skew = record { skew = skew; latency = 17000; byte_ns = 80 }

-- what is read there, in order, where the skew is this
abbrev pub read : ℕ → List Incoming → List Message
read skew heard = reverse (delivered skew is_open heard)

-- All is met that is asked of one side, of both networks, and of a receiver. Each message is read
-- once.
pub record PremisesAreMet : Type 0 where
  pub one_link : AreOfOneLink (source_until 0 2005760) (stream_until 0 2005760)
  pub quiet_on : (side : Side) → IsQuietOn (source_until 0 2005760) side (both_sent 988760)
  pub arrivals : (side : Side) →
      AreItsArrivals (source_until 0 2005760) side (both_sent 988760) (both_came 988760 side)
  pub shown : (side : Side) →
      IsShown (stream_until 0 2005760) (both_came 988760 side) (both_left 988760 side)
  pub awaited : AreAwaited (source_until 0 2005760)
  pub quiet : IsQuietSource (source_until 0 2005760) (both_sent 988760)
  pub uncut : NoneIsCut (source_until 0 2005760) (both_sent 988760)
  pub way : IsWayTo (source_until 0 2005760) (stream_until 0 2005760) (way_with 1000000)
  pub heard : AreHeard 1 (both_left 988760) (both_heard 988760)
  pub sent : messages_sent (both_sent 988760) ≡ hello ∷ hello ∷ []
  pub told : read 1000000 (both_heard 988760) ≡ hello ∷ hello ∷ []

-- ---- the recordings end before the last copy is sent

abbrev pub cut_sent : List Came
cut_sent = on_a 4 1000000 a1 ∷ on_b 3 988760 b0 ∷ on_a 1 0 a0 ∷ []

abbrev pub cut_came : Side → List Arrival
cut_came A = both_came 988760 A
cut_came B = arrival_with 3 988760 B 1 b0 ∷ []

abbrev pub cut_left : Side → List Gone
cut_left A = both_left 988760 A
cut_left B = gone 2 1005760 b0 ∷ []

abbrev pub cut_heard : List Incoming
cut_heard = heard_on 2 B 1005760 b0 ∷ heard_on 3 A 1005760 a1 ∷ heard_on 1 A 5760 a0 ∷ []

-- A copy is cut off, all is met that is asked of a receiver, and both messages are read.
pub record CutIsMet : Type 0 where
  pub quiet : IsQuietSource (source_until 0 1200000) cut_sent
  pub cut : length (cut_off (source_until 0 1200000) A cut_sent) ≡ 1
  pub arrivals : (side : Side) →
      AreItsArrivals (source_until 0 1200000) side cut_sent (cut_came side)
  pub shown : (side : Side) → IsShown (stream_until 0 1200000) (cut_came side) (cut_left side)
  pub way : IsWayTo (source_until 0 1200000) (stream_until 0 1200000) (way_with 1000000)
  pub heard : AreHeard 1 cut_left cut_heard
  pub sent : messages_sent cut_sent ≡ hello ∷ hello ∷ []
  pub told : read 1000000 cut_heard ≡ hello ∷ hello ∷ []

-- ---- one message, and what is asked but for one thing

-- its copy on B is sent so much later, and leaves then
abbrev pub one_sent : ℕ → List Came
one_sent later = on_b 2 later b0 ∷ on_a 1 0 a0 ∷ []

abbrev pub one_came : ℕ → Side → List Arrival
one_came later A = arrival_with 1 0 A 1 a0 ∷ []
one_came later B = arrival_with 2 later B 1 b0 ∷ []

abbrev pub one_left : ℕ → Side → List Gone
one_left late A = gone 1 5760 a0 ∷ []
one_left late B = gone 2 late b0 ∷ []

abbrev pub one_heard : ℕ → List Incoming
one_heard late = heard_on 2 B late b0 ∷ heard_on 1 A 5760 a0 ∷ []

-- with this skew, and so much that is given for copies
abbrev pub source_with : ℕ → Option ℕ → ℕ → ℕ → Source
source_with inner given skew until = record (source (options inner) given until) {
  ways = way_with skew ∷ [];
}

-- Nothing is found of the sender nor of the switch, and nothing is open; but the one message that
-- was sent is read twice.
pub record IsReadTwice (s : Source) (z : Terms) (skew later late : ℕ) : Type 0 where
  pub one_link : AreOfOneLink s z
  pub quiet : IsQuietSource s (one_sent later)
  pub arrivals : (side : Side) → AreItsArrivals s side (one_sent later) (one_came later side)
  pub shown : (side : Side) → IsShown z (one_came later side) (one_left late side)
  pub heard : AreHeard 1 (one_left late) (one_heard late)
  pub sent : messages_sent (one_sent later) ≡ hello ∷ []
  pub told : read skew (one_heard late) ≡ hello ∷ hello ∷ []

-- So it is where a frame may take a nanosecond inside beyond its latency, where copies may be sent
-- a nanosecond further apart than the way leaves them, and in tables whose skew is less than the
-- latency.
pub record EachIsNeeded : Type 0 where
  pub inner :
      IsReadTwice (source_with 1 None 1000000 1005761) (stream_until 1 1005761) 1000000 988760
      1005761
  pub near :
      IsReadTwice (source_with 0 (Some 988761) 1000000 1005761) (stream_until 0 1005761) 1000000
      988761 1005761
  pub skew : IsReadTwice (source_with 0 None 11239 17000) (stream_until 0 17000) 11239 0 17000
