-- Exactly once, where the two networks send at times of their own: the copies of a link's frames
-- that come to a receiver.
use Rattle.std.specs.Prelude.{◌≡◌, ℕ, ◌+◌, ◌*◌, ◌≤◌, Bool, max, Some, List, [], ◌∷◌, filter, length}
use Rattle.std.specs.Prelude.{reverse, slice_get, take, IfSome}
use Rattle.afdx_frame.specs.declared.link.Side.{Side}
use Rattle.afdx_frame.specs.declared.link.Side.TheVariants.{A, B}
use Rattle.afdx_frame.specs.Sides.{is_side}
use Rattle.afdx_config.specs.Numbers.{after_steps}
use Rattle.afdx_config.specs.SentList.{Message}
use Rattle.afdx_receive.specs.Integrity.{Incoming}
use Rattle.afdx_receive.specs.Redundancy.{newest}
use Rattle.afdx_receive.specs.TwoStreams.{count_of}
use Rattle.afdx_receive.specs.Delivery.{delivered, CarriesSent}

-- when a frame was sent on each network, and how long it takes on its way at least, all in ns
pub record SentApart : Type 0 where
  pub on_a : ℕ
  pub on_b : ℕ
  pub least : ℕ

abbrev pub sent_on : Side → SentApart → ℕ
sent_on A y = y.on_a
sent_on B y = y.on_b

-- on each network frames are a gap apart, but for the jitter: each from any before it
pub record AreSpaced (gap shift : ℕ) (stream : List SentApart) : Type 0 where
  pub spaced : (side : Side) (j d : ℕ) (y z : SentApart) →
      slice_get stream j ≡ Some y →
      slice_get stream (j + d) ≡ Some z →
      sent_on side y + gap * d ≤ sent_on side z + shift

-- the copies of a frame are sent so near each other that one comes at most the skew after the
-- other, however long each of them takes
pub record IsNear (latency skew : ℕ) (y : SentApart) : Type 0 where
  pub b_soon : y.on_b + latency ≤ y.on_a + y.least + skew
  pub a_soon : y.on_a + latency ≤ y.on_b + y.least + skew

abbrev pub AreNear : ℕ → ℕ → List SentApart → Type 0
AreNear latency skew stream =
    (k : ℕ) (y : SentApart) → slice_get stream k ≡ Some y → IsNear latency skew y

-- on its way a frame takes no longer than as many gaps
abbrev pub AreQuick : ℕ → List SentApart → Type 0
AreQuick most stream = (k : ℕ) (y : SentApart) → slice_get stream k ≡ Some y → y.least ≤ most

-- the frame is the copy of the next one of its side: it comes no sooner than it can and at most the
-- latency after it was sent there, and not before those that came; it has the number and the
-- message of its place
pub record IsNextApart (latency : ℕ) (messages : List Message) (stream : List SentApart)
    (before : List Incoming) (frame : Incoming) : Type 0 where
  pub sending : SentApart
  pub at_place : slice_get stream (count_of frame.side before) ≡ Some sending
  pub number : frame.number ≡ after_steps (count_of frame.side before) 0
  pub carries : CarriesSent messages (count_of frame.side before) frame
  pub no_sooner : sent_on frame.side sending + sending.least ≤ frame.time
  pub in_time : frame.time ≤ sent_on frame.side sending + latency
  pub in_order : IfSome (newest before) (λ last. last.time ≤ frame.time)

-- all that came are such copies, on each side in order and with none left out
abbrev pub AreApart : ℕ → List Message → List SentApart → List Incoming → Type 0
AreApart latency messages stream [] = Unit {0}
AreApart latency messages stream (frame ∷ before) =
    IsNextApart latency messages stream before frame × AreApart latency messages stream before

-- Where that is so exactly the messages to an open UDP port are delivered, each once and in order,
-- as far as one of the sides has come.
abbrev pub ApartIsDeliveredOnce : Type 0
ApartIsDeliveredOnce =
    (gap shift latency skew : ℕ) (messages : List Message) (stream : List SentApart)
    (is_open : ℕ → Bool) (came : List Incoming) →
    1000000 ≤ gap →
    shift ≤ gap →
    skew ≤ 100000000 →
    AreSpaced gap shift stream →
    AreNear latency skew stream →
    AreQuick (24 * gap) stream →
    AreApart latency messages stream came →
    reverse (delivered skew is_open came)
    ≡ filter (λ m. is_open m.udp) (take (max (count_of A came) (count_of B came)) messages)

-- ---- told by the frames of each side alone, as they are recorded there

-- the frame is the copy of the frame at a place of the stream, on its side
pub record IsFrameOf (latency : ℕ) (messages : List Message) (stream : List SentApart)
    (place : ℕ) (frame : Incoming) : Type 0 where
  pub sending : SentApart
  pub at_place : slice_get stream place ≡ Some sending
  pub number : frame.number ≡ after_steps place 0
  pub carries : CarriesSent messages place frame
  pub no_sooner : sent_on frame.side sending + sending.least ≤ frame.time
  pub in_time : frame.time ≤ sent_on frame.side sending + latency

-- these are the first frames of the stream, in order and with none left out
abbrev pub AreFirstFrames : ℕ → List Message → List SentApart → List Incoming → Type 0
AreFirstFrames latency messages stream [] = Unit {0}
AreFirstFrames latency messages stream (frame ∷ past) =
    IsFrameOf latency messages stream (length past) frame
    × AreFirstFrames latency messages stream past

-- they come by time
abbrev pub ComeByTime : List Incoming → Type 0
ComeByTime [] = Unit {0}
ComeByTime (frame ∷ before) =
    IfSome (newest before) (λ last. last.time ≤ frame.time) × ComeByTime before

-- Where on each side the first frames of the stream came, and all of them by time, exactly the
-- messages to an open UDP port are delivered, each once and in order, as far as one of the sides
-- has come.
abbrev pub SidesAreDeliveredOnce : Type 0
SidesAreDeliveredOnce =
    (gap shift latency skew : ℕ) (messages : List Message) (stream : List SentApart)
    (is_open : ℕ → Bool) (came : List Incoming) →
    1000000 ≤ gap →
    shift ≤ gap →
    skew ≤ 100000000 →
    AreSpaced gap shift stream →
    AreNear latency skew stream →
    AreQuick (24 * gap) stream →
    ((side : Side) →
    AreFirstFrames latency messages stream (filter (λ f. is_side f.side side) came)) →
    ComeByTime came →
    reverse (delivered skew is_open came)
    ≡ filter (λ m. is_open m.udp) (take (max (count_of A came) (count_of B came)) messages)
