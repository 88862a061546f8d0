-- Copies that two networks send at times of their own are two streams in order.
use Rattle.std.proofs.Common.{◌≡◌, ℕ, suc, ◌+◌, ◌*◌, ◌<◌, ◌≤◌, ◌⊎◌, inl, inr, Bool, true}
use Rattle.std.proofs.Common.{false, Option, Some, None, List, [], ◌∷◌, length, refl}
use Rattle.std.proofs.Common.{sym, ◌∙◌, ap, arith, subst}
use Rattle.std.specs.Prelude.{MatchOption, IfSome, filter, slice_get, max, reverse, take}
use Rattle.std.proofs.Math.Nat.{mul-le-mul_left}
use Rattle.std.proofs.lemmas.Bool.{cond-true, cond-false, cases_lt, leb-false}
use Rattle.std.proofs.lemmas.Option.{IfSome_then, same_Some}
use Rattle.afdx_frame.specs.declared.link.Side.{Side}
use Rattle.afdx_frame.specs.declared.link.Side.TheVariants.{A, B}
use Rattle.afdx_frame.specs.Sides.{is_side}
use Rattle.afdx_frame.proofs.SideLemmas.{is_side-same}
use Rattle.afdx_config.specs.SentList.{Message}
use Rattle.afdx_receive.specs.Integrity.{Incoming}
use Rattle.afdx_receive.specs.Redundancy.{newest}
use Rattle.afdx_receive.specs.TwoStreams.{other_side, count_of, is_first_copy, first_copies, AreTwoStreams}
use Rattle.afdx_receive.specs.Delivery.{delivered, AllCarrySent}
use Rattle.afdx_receive.specs.CopiesApart.{SentApart, sent_on, AreSpaced, IsNear, AreNear, AreQuick, IsNextApart, AreApart}
use Rattle.afdx_receive.specs.CopiesApart.{IsFrameOf, AreFirstFrames, ComeByTime}
use Rattle.afdx_receive.proofs.StreamLemmas.{own_place, counted, most_any}
use Rattle.afdx_receive.proofs.DeliveryLemmas.{delivered_once}

count_more : (side : Side) (frame : Incoming) (before : List Incoming) → is_side frame.side side ≡ true →
    count_of side (frame ∷ before) ≡ suc (count_of side before)
count_more side frame before e =
    ap length (cond-true (is_side frame.side side) (frame ∷ filter (λ (f : Incoming). is_side f.side side) before)
    (filter (λ (f : Incoming). is_side f.side side) before) e)

count_same : (side : Side) (frame : Incoming) (before : List Incoming) → is_side frame.side side ≡ false →
    count_of side (frame ∷ before) ≡ count_of side before
count_same side frame before e =
    ap length (cond-false (is_side frame.side side) (frame ∷ filter (λ (f : Incoming). is_side f.side side) before)
    (filter (λ (f : Incoming). is_side f.side side) before) e)

if_upto : (o : Option Incoming) (m n : ℕ) → IfSome o (λ f. f.time ≤ m) → m ≤ n → IfSome o (λ f. f.time ≤ n)
if_upto o m n h le = IfSome_then o h (λ f below. omega (arith, below, le))

-- ---- what came of a side was sent there

-- the frame at a place, as sent on a side, came by the newest time
record HasCome (stream : List SentApart) (side : Side) (place : ℕ) (came : List Incoming) : Type 0 where
  pub sending : SentApart
  pub at_place : slice_get stream place ≡ Some sending
  pub by : (t : ℕ) → IfSome (newest came) (λ last. last.time ≤ t) → sent_on side sending + sending.least ≤ t

has_come : (latency : ℕ) (messages : List Message) (stream : List SentApart) (came : List Incoming)
    → AreApart latency messages stream came → (side : Side) (place : ℕ) →
    place < count_of side came → HasCome stream side place came
has_come latency messages stream [] copies side place count = absurd (omega (arith, count))
has_come latency messages stream (frame ∷ before) copies side place count =
    at (is_side frame.side side) refl
    (λ h. has_come latency messages stream before copies.1 side place h)
  where
    older : (place < count_of side before → HasCome stream side place before) → place < count_of side before →
        HasCome stream side place (frame ∷ before)
    older rest h =
        let last : HasCome stream side place before = rest h in
        record {
          sending = last.sending;
          at_place = last.at_place;
          by = λ t upto. last.by t (if_upto (newest before) frame.time t copies.0.in_order upto);
        }

    this : frame.side ≡ side → place ≡ count_of side before → HasCome stream side place (frame ∷ before)
    this own here =
        let same : count_of frame.side before ≡ place = ap (λ s. count_of s before) own ∙ sym here in
        let came_by : sent_on side copies.0.sending + copies.0.sending.least ≤ frame.time =
        omega (arith, copies.0.no_sooner, ap (λ s. sent_on s copies.0.sending) own) in
        record {
          sending = copies.0.sending;
          at_place = ap (slice_get stream) (sym same) ∙ copies.0.at_place;
          by = λ t upto. omega (arith, came_by, upto);
        }

    split : (m n : ℕ) → m < suc n → (m < n) ⊎ (m ≡ n)
    split m n h = which (cases_lt m n)
      where
        which : (m < n) ⊎ (n ≤ m) → (m < n) ⊎ (m ≡ n)
        which (inl less) = inl less
        which (inr more) = inr (omega (arith, h, more))

    at : (b : Bool) → is_side frame.side side ≡ b → (place < count_of side before → HasCome stream side place before) →
        HasCome stream side place (frame ∷ before)
    at true e rest = which (split place (count_of side before) (omega (arith, count, count_more side frame before e)))
      where
        which : (place < count_of side before) ⊎ (place ≡ count_of side before)
            → HasCome stream side place (frame ∷ before)
        which (inl less) = older rest less
        which (inr here) = this (is_side-same frame.side side e) here
    at false e rest = older rest (omega (arith, count, count_same side frame before e))

-- ---- the newest first copy

-- it came by a side, at the last place of the first copies, and behind all that was sent there up to it
record NewestFirst (stream : List SentApart) (n : ℕ) (came : List Incoming) (first : Incoming) : Type 0 where
  pub side : Side
  pub counted_there : n ≤ count_of side came
  pub some : 0 < n
  pub behind : (place : ℕ) → place < n → (y : SentApart) → slice_get stream place ≡ Some y →
      sent_on side y + y.least ≤ first.time

abbrev NewestIs : List SentApart → Option Incoming → ℕ → List Incoming → Type 0
NewestIs stream o n came = MatchOption o (n ≡ 0) (λ first. NewestFirst stream n came first)

newest_with : (stream : List SentApart) (o p : Option Incoming) (m n : ℕ) (came : List Incoming) → o ≡ p → m ≡ n
    → NewestIs stream p n came → NewestIs stream o m came
newest_with stream o p m n came e f h = rw (e, f) h

count_grows : (side : Side) (frame : Incoming) (before : List Incoming) →
    count_of side before ≤ count_of side (frame ∷ before)
count_grows side frame before = at (is_side frame.side side) refl
  where
    at : (b : Bool) → is_side frame.side side ≡ b → count_of side before ≤ count_of side (frame ∷ before)
    at true e = omega (arith, count_more side frame before e)
    at false e = omega (arith, count_same side frame before e)

is_own_side : (side : Side) → is_side side side ≡ true
is_own_side A = refl
is_own_side B = refl

newest_first : (latency : ℕ) (messages : List Message) (stream : List SentApart) (came : List Incoming)
    → AreApart latency messages stream came →
    NewestIs stream (newest (first_copies came)) (length (first_copies came)) came
newest_first latency messages stream [] copies = refl
newest_first latency messages stream (frame ∷ before) copies =
    at (is_first_copy before frame) refl (newest_first latency messages stream before copies.1)
  where
    grown : (o : Option Incoming) (n : ℕ) → NewestIs stream o n before → NewestIs stream o n (frame ∷ before)
    grown None n h = h
    grown (Some first) n h = record {
      side = h.side;
      counted_there = omega (arith, h.counted_there, count_grows h.side frame before);
      some = h.some;
      behind = h.behind;
    }

    at : (b : Bool) → is_first_copy before frame ≡ b
        → NewestIs stream (newest (first_copies before)) (length (first_copies before)) before →
        NewestIs stream (newest (first_copies (frame ∷ before))) (length (first_copies (frame ∷ before)))
        (frame ∷ before)
    at true e so_far =
        let now : first_copies (frame ∷ before) ≡ frame ∷ first_copies before =
        cond-true (is_first_copy before frame) (frame ∷ first_copies before) (first_copies before) e in
        let own : length (first_copies before) ≡ count_of frame.side before = sym (own_place before frame e) in
        let there : count_of frame.side (frame ∷ before) ≡ suc (count_of frame.side before) =
        count_more frame.side frame before (is_own_side frame.side) in
        newest_with stream (newest (first_copies (frame ∷ before))) (Some frame)
        (length (first_copies (frame ∷ before))) (suc (length (first_copies before))) (frame ∷ before)
        (ap newest now) (ap length now) (record {
          side = frame.side;
          counted_there = omega (arith, own, there);
          some = omega arith;
          behind = λ place less y here.
              let come = has_come latency messages stream (frame ∷ before) copies frame.side place
              (omega (arith, less, own, there)) in
              let same : come.sending ≡ y = same_Some come.sending y (sym come.at_place ∙ here) in
              let by : sent_on frame.side come.sending + come.sending.least ≤ frame.time =
              come.by frame.time (omega arith) in
              omega (arith, by, ap (sent_on frame.side) same, ap (λ (s : SentApart). s.least) same);
        })
    at false e so_far =
        let now : first_copies (frame ∷ before) ≡ first_copies before =
        cond-false (is_first_copy before frame) (frame ∷ first_copies before) (first_copies before) e in
        newest_with stream (newest (first_copies (frame ∷ before))) (newest (first_copies before))
        (length (first_copies (frame ∷ before))) (length (first_copies before)) (frame ∷ before)
        (ap newest now) (ap length now)
        (grown (newest (first_copies before)) (length (first_copies before)) so_far)

-- ---- a late copy comes soon, and is near

-- a copy is sent at most so much after its frame on any side
near_by : (latency skew : ℕ) (y : SentApart) → IsNear latency skew y → latency ≤ skew + y.least → (side other : Side) →
    sent_on side y + latency ≤ sent_on other y + y.least + skew
near_by latency skew y near own A A = omega (arith, own)
near_by latency skew y near own A B = near.a_soon
near_by latency skew y near own B A = near.b_soon
near_by latency skew y near own B B = omega (arith, own)

-- as the two are sent so near each other that either may come first, the latency alone is no more
own_near : (latency skew : ℕ) (y : SentApart) → IsNear latency skew y → latency ≤ skew + y.least
own_near latency skew y near = omega (arith, near.a_soon, near.b_soon)

too_far : (gap shift skew d early late least t : ℕ) → 128 ≤ d → early + gap * d ≤ late + shift →
    late ≤ t → t ≤ early + least + skew → least ≤ 24 * gap →
    shift ≤ gap → skew ≤ 100000000 → 1000000 ≤ gap → ⊥
too_far gap shift skew d early late least t far apart came in_time quick small fast wide =
    let many : gap * 128 ≤ gap * d = mul-le-mul_left gap far in
    omega (arith, many, apart, came, in_time, quick, small, fast, wide)

module _ (gap shift latency skew : ℕ) (messages : List Message) (stream : List SentApart)
    (wide : 1000000 ≤ gap) (small : shift ≤ gap) (fast : skew ≤ 100000000)
    (spaced : AreSpaced gap shift stream) (nears : AreNear latency skew stream)
    (quick : AreQuick (24 * gap) stream) where
  near : (before : List Incoming) (frame : Incoming) → AreApart latency messages stream (frame ∷ before) →
      count_of (other_side frame.side) before ≤ count_of frame.side before + 128
  near before frame copies = at (cases_lt (count_of frame.side before + 128) (count_of (other_side frame.side) before))
    where
      far_off : (d : ℕ) → count_of frame.side before + d < count_of (other_side frame.side) before → 128 ≤ d → ⊥
      far_off d within far =
          let other : Side = other_side frame.side in
          let y : SentApart = copies.0.sending in
          let place : ℕ = count_of frame.side before in
          let come = has_come latency messages stream before copies.1 other (place + d) within in
          let by : sent_on other come.sending + come.sending.least ≤ frame.time =
          come.by frame.time copies.0.in_order in
          let apart : sent_on other y + gap * d ≤ sent_on other come.sending + shift =
          spaced.spaced other place d y come.sending copies.0.at_place come.at_place in
          let is_near = nears place y copies.0.at_place in
          let soon : sent_on frame.side y + latency ≤ sent_on other y + y.least + skew =
          near_by latency skew y is_near (own_near latency skew y is_near) frame.side other in
          too_far gap shift skew d (sent_on other y) (sent_on other come.sending) y.least frame.time far apart
          (omega (arith, by)) (omega (arith, copies.0.in_time, soon)) (quick place y copies.0.at_place) small fast wide

      beyond : (m n : ℕ) → n + 128 < m → (d : ℕ) × (n + d < m) × (128 ≤ d)
      beyond m n h = (128, omega (arith, h), omega arith)

      at : (count_of frame.side before + 128 < count_of (other_side frame.side) before)
          ⊎ (count_of (other_side frame.side) before ≤ count_of frame.side before + 128) →
          count_of (other_side frame.side) before ≤ count_of frame.side before + 128
      at (inl far) = let parts = beyond (count_of (other_side frame.side) before) (count_of frame.side before) far in
          absurd (far_off parts.0 parts.1 parts.2)
      at (inr close) = close

  soon : (before : List Incoming) (frame : Incoming) → AreApart latency messages stream (frame ∷ before)
      → is_first_copy before frame ≡ false →
      IfSome (newest (first_copies before)) (λ first. frame.time ≤ first.time + skew)
  soon before frame copies late =
      at (newest (first_copies before)) (newest_first latency messages stream before copies.1)
    where
      place : ℕ
      place = count_of frame.side before

      behind : place < count_of (other_side frame.side) before
      behind = leb-false (count_of (other_side frame.side) before) place late

      most : length (first_copies before) ≡ max place (count_of (other_side frame.side) before)
      most = counted before ∙ sym (most_any frame.side before)

      less : (n own other : ℕ) → n ≡ max own other → own < other → own < n
      less n own other m h = omega (arith, m, h)

      at : (o : Option Incoming) → NewestIs stream o (length (first_copies before)) before
          → IfSome o (λ first. frame.time ≤ first.time + skew)
      at None none = tt
      at (Some first) sent =
          let y : SentApart = copies.0.sending in
          let came_first : sent_on sent.side y + y.least ≤ first.time =
          sent.behind place (less (length (first_copies before)) place
          (count_of (other_side frame.side) before) most behind)
          y copies.0.at_place in
          let is_near = nears place y copies.0.at_place in
          let close : sent_on frame.side y + latency ≤ sent_on sent.side y + y.least + skew =
          near_by latency skew y is_near (own_near latency skew y is_near) frame.side sent.side in
          omega (arith, copies.0.in_time, close, came_first)

  two_streams : (came : List Incoming) → AreApart latency messages stream came →
      AreTwoStreams skew came × AllCarrySent messages came
  two_streams [] copies = (tt, tt)
  two_streams (frame ∷ before) copies =
      let older = two_streams before copies.1 in (
        (
          record {
            number = copies.0.number;
            soon = soon before frame copies;
            near = near before frame copies;
          },
          older.0,
        ),
        (copies.0.carries, older.1),
      )

pub apart_delivered_once : (gap shift latency skew : ℕ) (messages : List Message) (stream : List SentApart)
    (is_open : ℕ → Bool) (came : List Incoming) → 1000000 ≤ gap → shift ≤ gap → skew ≤ 100000000 →
    AreSpaced gap shift stream → AreNear latency skew stream → AreQuick (24 * gap) stream →
    AreApart latency messages stream came →
    reverse (delivered skew is_open came)
    ≡ filter (λ (m : Message). is_open m.udp) (take (max (count_of A came) (count_of B came)) messages)
apart_delivered_once gap shift latency skew messages stream is_open came wide small fast spaced nears quick copies =
    let both = two_streams gap shift latency skew messages stream wide small fast spaced nears quick came copies in
    delivered_once skew is_open messages came both.0 both.1

-- ---- by the frames of each side

module _ (latency : ℕ) (messages : List Message) (stream : List SentApart) where
  abbrev First : List Incoming → Type 0
  First frames = AreFirstFrames latency messages stream frames

  abbrev of_side : Side → List Incoming → List Incoming
  of_side side frames = filter (λ (f : Incoming). is_side f.side side) frames

  -- what came before is the first of each side too
  fewer : (side : Side) (frame : Incoming) (before : List Incoming) → First (of_side side (frame ∷ before)) →
      First (of_side side before)
  fewer side frame before firsts = at (is_side frame.side side) refl
    where
      rest : (all : List Incoming) → all ≡ frame ∷ of_side side before → First all → First (of_side side before)
      rest all e h = let whole : First (frame ∷ of_side side before) = subst (λ (all : List Incoming). First all) e h in
          whole.1

      same : (all : List Incoming) → all ≡ of_side side before → First all → First (of_side side before)
      same all e h = subst (λ (all : List Incoming). First all) e h

      at : (b : Bool) → is_side frame.side side ≡ b → First (of_side side before)
      at true e = rest (of_side side (frame ∷ before))
          (cond-true (is_side frame.side side) (frame ∷ of_side side before) (of_side side before) e) firsts
      at false e = same (of_side side (frame ∷ before))
          (cond-false (is_side frame.side side) (frame ∷ of_side side before) (of_side side before) e) firsts

  -- and the frame is the next of its own
  own : (frame : Incoming) (before : List Incoming) → First (of_side frame.side (frame ∷ before)) →
      IsFrameOf latency messages stream (count_of frame.side before) frame
  own frame before firsts = first (of_side frame.side (frame ∷ before))
      (cond-true (is_side frame.side frame.side) (frame ∷ of_side frame.side before) (of_side frame.side before)
      (is_own_side frame.side)) firsts
    where
      first : (all : List Incoming) → all ≡ frame ∷ of_side frame.side before → First all →
          IsFrameOf latency messages stream (count_of frame.side before) frame
      first all e h = let whole : First (frame ∷ of_side frame.side before) =
          subst (λ (all : List Incoming). First all) e h in whole.0

  sides_apart : (came : List Incoming) → ((side : Side) → First (of_side side came)) → ComeByTime came →
      AreApart latency messages stream came
  sides_apart [] firsts order = tt
  sides_apart (frame ∷ before) firsts order =
      let this = own frame before (firsts frame.side) in (
        record {
          sending = this.sending;
          at_place = this.at_place;
          number = this.number;
          carries = this.carries;
          no_sooner = this.no_sooner;
          in_time = this.in_time;
          in_order = order.0;
        },
        sides_apart before (λ side. fewer side frame before (firsts side)) order.1,
      )

pub sides_delivered_once : (gap shift latency skew : ℕ) (messages : List Message) (stream : List SentApart)
    (is_open : ℕ → Bool) (came : List Incoming) → 1000000 ≤ gap → shift ≤ gap → skew ≤ 100000000 →
    AreSpaced gap shift stream → AreNear latency skew stream → AreQuick (24 * gap) stream →
    ((side : Side) → AreFirstFrames latency messages stream (filter (λ (f : Incoming). is_side f.side side) came)) →
    ComeByTime came →
    reverse (delivered skew is_open came)
    ≡ filter (λ (m : Message). is_open m.udp) (take (max (count_of A came) (count_of B came)) messages)
sides_delivered_once gap shift latency skew messages stream is_open came wide small fast spaced nears quick firsts
    order =
    apart_delivered_once gap shift latency skew messages stream is_open came wide small fast spaced nears quick
    (sides_apart latency messages stream came firsts order)
