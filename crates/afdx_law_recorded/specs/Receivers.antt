-- One link at one of its receivers, by both networks, as it was recorded: what is made of what left
-- the receiver's port on both sides. Lists have the newest first, those of messages the oldest.
use Rattle.std.specs.Prelude.{◌≡◌, ℕ, ◌*◌, ◌≤◌, nat_le, nat_lt, if◌then◌else◌, Bool, Result, Ok, Err, List, [], ◌∷◌, ◌++◌}
use Rattle.std.specs.Prelude.{Some, filter, length, map, reverse, slice_get}
use Rattle.afdx_frame.specs.Carried.{Carried, carried_by}
use Rattle.afdx_frame.specs.Parts.{number_of_frame}
use Rattle.afdx_frame.specs.Regulation.{greatest_delay, slowest_byte}
use Rattle.afdx_frame.specs.Sides.{is_side}
use Rattle.afdx_frame.specs.declared.fault.IpFault.{IpFault}
use Rattle.afdx_frame.specs.declared.link.Side.{Side}
use Rattle.afdx_frame.specs.declared.link.Side.TheVariants.{A, B}
use Rattle.afdx_config.specs.SentList.{Message}
use Rattle.afdx_police.specs.Arrival.{Arrival}
use Rattle.afdx_police.specs.Rule.{IsRule}
use Rattle.afdx_conform.specs.Streams.{Gone, Terms}
use Rattle.afdx_receive.specs.CopiesApart.{ComeByTime}
use Rattle.afdx_receive.specs.Delivery.{delivered}
use Rattle.afdx_receive.specs.Integrity.{Incoming}
use Rattle.afdx_lawful.specs.Sources.{Came, Source, Way, apart_by, least_left, left_by, on_side}
use Rattle.afdx_law_recorded.specs.OneSide.{AreItsArrivals, AreOfOneLink, IsShown}
use Rattle.afdx_law_recorded.specs.Pairs.{AreAwaited, IsQuietSource, NoneIsCut}

-- ---- the receiver

-- The way goes to one of the link's receivers, at whose port the streams of both sides were judged.
-- Its values are those of tables: the copies of a frame are no further apart than its skew, which
-- is at most 100 ms, and its line is no slower than 10 Mbit/s. A frame may take nothing inside
-- beyond its latency, and the copies of a frame that is long enough for the link are asked to be
-- sent no further apart than this way leaves them.
pub record IsWayTo (s : Source) (z : Terms) (way : Way) : Type 0 where
  pub link : AreOfOneLink s z
  pub rule : IsRule s.rule
  pub latency : z.latency_ns ≡ way.latency
  pub line : z.byte_ns ≡ way.byte_ns
  pub skew : way.latency ≤ way.skew
  pub longest : way.skew ≤ 1000 * greatest_delay
  pub slowest : way.byte_ns ≤ slowest_byte
  pub inner : z.by.inner ≡ 0
  pub near : (bytes : ℕ) → s.rule.lmin ≤ bytes → apart_by s s.given bytes ≤ left_by way bytes

-- a frame of a link that left the receiver's port on a side, as it comes to the receiver
abbrev pub heard_as : ℕ → Side → Gone → Incoming
heard_as vl side y = record {
  time = y.time;
  side = side;
  vl = vl;
  number = number_of_frame y.bytes;
  bytes = y.bytes;
}

-- what came to the receiver of the link is what left its port on both sides, by time
pub record AreHeard (vl : ℕ) (left : Side → List Gone) (heard : List Incoming) : Type 0 where
  pub sides : (side : Side) →
      filter (λ f. is_side f.side side) heard ≡ map (heard_as vl side) (left side)
  pub by_time : ComeByTime heard

-- A frame is put among others by its time, after those of the same time.
abbrev pub put_by_time : Incoming → List Incoming → List Incoming
put_by_time x [] = x ∷ []
put_by_time x (y ∷ past) =
    if nat_lt x.time y.time then y ∷ put_by_time x past else x ∷ y ∷ past

-- what comes by both sides, merged by time, at one time that of the first of both lists first
abbrev pub merged_by_time : List Incoming → List Incoming → List Incoming
merged_by_time first [] = first
merged_by_time first (x ∷ past) = put_by_time x (merged_by_time first past)

abbrev pub heard_of : (vl : ℕ) → (left : Side → List Gone) → List Incoming
heard_of vl left =
    merged_by_time (map (heard_as vl A) (left A)) (map (heard_as vl B) (left B))

-- Where what left goes by time on each side, that comes to the receiver by both: what left, merged
-- by time, at one time that of side A first.
abbrev pub DeparturesMerge : Type 0
DeparturesMerge =
    (vl : ℕ) (left : Side → List Gone) →
    ((side : Side) → ComeByTime (map (heard_as vl side) (left side))) →
    AreHeard vl left (heard_of vl left)

-- What the tables leave for copies is no more than each of the link's ways does.
abbrev pub LeastIsLeft : Type 0
LeastIsLeft =
    (ways : List Way) (k : ℕ) (way : Way) →
    slice_get ways k ≡ Some way →
    (bytes : ℕ) →
    least_left ways bytes ≤ left_by way bytes

-- ---- messages

-- behind these the message of a frame, if it carries one
abbrev pub with_message : Result Carried IpFault → List Message → List Message
with_message (Ok c) before = before ++ record { udp = c.to_port; payload = c.payload } ∷ []
with_message (Err fault) before = before

-- the messages that frames carry
unfoldable pub messages_of : List Came → List Message
messages_of [] = []
messages_of (x ∷ past) = with_message (carried_by x.bytes) (messages_of past)

-- those that a system sent: the messages of the side that has more frames, and of A where both have
-- as many
abbrev pub messages_sent : List Came → List Message
messages_sent xs =
    if nat_le (length (on_side B xs)) (length (on_side A xs)) then messages_of (on_side A xs)
    else messages_of (on_side B xs)

-- Each frame carries one message.
abbrev pub EachCarriesOne : Type 0
EachCarriesOne =
    (s : Source) (xs : List Came) (side : Side) →
    IsQuietSource s xs →
    length (messages_of (on_side side xs)) ≡ length (on_side side xs)

-- Where no copy is cut off both sides carry the same messages.
abbrev pub BothCarrySame : Type 0
BothCarrySame =
    (s : Source) (xs : List Came) →
    AreAwaited s →
    IsQuietSource s xs →
    NoneIsCut s xs →
    messages_of (on_side A xs) ≡ messages_of (on_side B xs)

-- Where nothing is found of the sender on both networks, nor of the link's streams at the
-- receiver's port on both sides, and nothing is open: what the rules of integrity and redundancy
-- make of what left that port on both sides, by its times, are the messages to an open UDP port
-- that the system sent, each once and in order.
abbrev pub RecordedIsToldOnce : Type 0
RecordedIsToldOnce =
    (s : Source) (z : Terms) (way : Way) (xs : List Came) (own : Side → List Arrival)
    (left : Side → List Gone) (heard : List Incoming) (is_open : ℕ → Bool) →
    IsWayTo s z way →
    IsQuietSource s xs →
    ((side : Side) → AreItsArrivals s side xs (own side)) →
    ((side : Side) → IsShown z (own side) (left side)) →
    AreHeard s.rule.vl left heard →
    reverse (delivered way.skew is_open heard) ≡ filter (λ m. is_open m.udp) (messages_sent xs)
