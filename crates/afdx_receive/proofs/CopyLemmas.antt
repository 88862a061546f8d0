-- The copies of a lawful stream are two streams in order.
use Rattle.std.proofs.Common.{◌≡◌, ℕ, zero, suc, ◌+◌, ◌-◌, ◌*◌, ◌<◌, ◌≤◌, ◌⊎◌, inl, inr, Bool, true}
use Rattle.std.proofs.Common.{false, Option, Some, None, List, [], ◌∷◌, length, refl}
use Rattle.std.proofs.Common.{sym, ◌∙◌, ap, arith}
use Rattle.std.specs.Prelude.{MatchOption, IfSome, filter, slice_get, max}
use Rattle.std.proofs.Math.ListN.{get_or}
use Rattle.std.proofs.Math.Nat.{mul-suc, mul-le-mul_left}
use Rattle.std.proofs.lemmas.Bool.{cond-true, cond-false, cases_lt, leb-false}
use Rattle.std.proofs.lemmas.Option.{slice_get_within, slice_get-get_or, IfSome_then, same_Some}
use Rattle.afdx_frame.specs.declared.link.Side.{Side}
use Rattle.afdx_frame.specs.Sides.{is_side}
use Rattle.afdx_frame.proofs.SideLemmas.{is_side-same}
use Rattle.afdx_config.specs.LawfulStream.{Sending}
use Rattle.afdx_receive.specs.Integrity.{Incoming}
use Rattle.afdx_receive.specs.Redundancy.{newest}
use Rattle.afdx_receive.specs.TwoStreams.{other_side, count_of, is_first_copy, first_copies}
use Rattle.afdx_receive.specs.Copies.{AreCopies}
use Rattle.afdx_receive.proofs.StreamLemmas.{own_place, counted, most_any}

-- ---- moments

abbrev pub Apart : ℕ → List ℕ → Type 0
Apart gap moments = (k r later : ℕ) → slice_get moments k ≡ Some r → slice_get moments (k + 1)
    ≡ Some later → r + gap ≤ later

-- each is sent at its moment, or at most the shift later
pub record IsSpaced (gap shift : ℕ) (moments : List ℕ) (stream : List Sending) : Type 0 where
  pub counts : length moments ≡ length stream
  pub apart : Apart gap moments
  pub shaped : (k r : ℕ) (y : Sending) → slice_get moments k ≡ Some r → slice_get stream k ≡ Some y
      → (r ≤ y.time) × (y.time ≤ r + shift)

one_value : {X : Type 0} (xs : List X) (i j : ℕ) (x y : X) → i ≡ j → slice_get xs i ≡ Some x
    → slice_get xs j ≡ Some y → x ≡ y
one_value xs i j x y e here there = same_Some x y (sym here ∙ ap (slice_get xs) e ∙ there)

add_none : (j : ℕ) → j ≡ j + 0
add_none j = omega arith

add_more : (j d : ℕ) → j + d + 1 ≡ j + suc d
add_more j d = omega arith

spread : (gap : ℕ) (moments : List ℕ) → Apart gap moments → (j d r late : ℕ)
    → slice_get moments j ≡ Some r → slice_get moments (j + d) ≡ Some late →
    r + gap * d ≤ late
spread gap moments apart j zero r late here there = let same : r ≡ late =
    one_value moments j (j + 0) r late (add_none j) here there in omega (arith, same)
spread gap moments apart j (suc d) r late here there =
    let last : slice_get moments (j + d + 1) ≡ Some late = ap (slice_get moments) (add_more j d) ∙ there in
    let within : j + d + 1 < length moments = slice_get_within moments (j + d + 1) late last in
    let mid : ℕ = get_or moments (j + d) late in
    let at_mid : slice_get moments (j + d) ≡ Some mid = slice_get-get_or moments (j + d) late (omega (arith, within)) in
    let so_far : r + gap * d ≤ mid = spread gap moments apart j d r mid here at_mid in
    let step : mid + gap ≤ late = apart (j + d) mid late at_mid last in
    omega (arith, so_far, step, mul-suc gap d)

-- the moment of a sending
record HasMoment (shift : ℕ) (moments : List ℕ) (k : ℕ) (y : Sending) : Type 0 where
  pub moment : ℕ
  pub at_place : slice_get moments k ≡ Some moment
  pub low : moment ≤ y.time
  pub high : y.time ≤ moment + shift

moment_at : (gap shift : ℕ) (moments : List ℕ) (stream : List Sending)
    → IsSpaced gap shift moments stream → (k : ℕ) (y : Sending) →
    slice_get stream k ≡ Some y → HasMoment shift moments k y
moment_at gap shift moments stream spaced k y here =
    let within : k < length stream = slice_get_within stream k y here in
    let at_place : slice_get moments k ≡ Some (get_or moments k 0) =
    slice_get-get_or moments k 0 (omega (arith, within, spaced.counts)) in
    let bounds = spaced.shaped k (get_or moments k 0) y at_place here in
    record { moment = get_or moments k 0; at_place = at_place; low = bounds.0; high = bounds.1 }

-- sendings come in order, as the shift is at most the gap
sent_in_order : (gap shift : ℕ) (moments : List ℕ) (stream : List Sending)
    → IsSpaced gap shift moments stream → shift ≤ gap → (j d : ℕ) (y z : Sending) →
    slice_get stream j ≡ Some y → slice_get stream (j + d) ≡ Some z → y.time ≤ z.time
sent_in_order gap shift moments stream spaced small j zero y z here there =
    let same : y ≡ z = one_value stream j (j + 0) y z (add_none j) here there in
    omega (arith, ap (λ (s : Sending). s.time) same)
sent_in_order gap shift moments stream spaced small j (suc d) y z here there =
    let first = moment_at gap shift moments stream spaced j y here in
    let last = moment_at gap shift moments stream spaced (j + suc d) z there in
    let far : first.moment + gap * suc d ≤ last.moment =
    spread gap moments spaced.apart j (suc d) first.moment last.moment first.at_place last.at_place in
    omega (arith, first.high, last.low, far, mul-suc gap d, small)

-- ---- what was sent when a copy came

if_upto : (o : Option Incoming) (m n : ℕ) → IfSome o (λ f. f.time ≤ m) → m ≤ n → IfSome o (λ f. f.time ≤ n)
if_upto o m n h le = IfSome_then o h (λ f below. omega (arith, below, le))

count_more : (side : Side) (frame : Incoming) (before : List Incoming) → is_side frame.side side ≡ true →
    count_of side (frame ∷ before) ≡ suc (count_of side before)
count_more side frame before e =
    ap length (cond-true (is_side frame.side side) (frame ∷ filter (λ (f : Incoming). is_side f.side side) before)
    (filter (λ (f : Incoming). is_side f.side side) before) e)

count_same : (side : Side) (frame : Incoming) (before : List Incoming) → is_side frame.side side ≡ false →
    count_of side (frame ∷ before) ≡ count_of side before
count_same side frame before e =
    ap length (cond-false (is_side frame.side side) (frame ∷ filter (λ (f : Incoming). is_side f.side side) before)
    (filter (λ (f : Incoming). is_side f.side side) before) e)

-- the last one of a side was sent before the newest came
record WasSent (stream : List Sending) (place : ℕ) (came : List Incoming) : Type 0 where
  pub sending : Sending
  pub at_place : slice_get stream place ≡ Some sending
  pub before : (t : ℕ) → IfSome (newest came) (λ last. last.time ≤ t) → sending.time ≤ t

last_sent : (latency : ℕ) (stream : List Sending) (came : List Incoming)
    → AreCopies latency stream came → (side : Side) (place : ℕ) →
    count_of side came ≡ suc place → WasSent stream place came
last_sent latency stream [] copies side place count = absurd (omega (arith, count))
last_sent latency stream (frame ∷ before) copies side place count =
    at (is_side frame.side side) refl (λ h. last_sent latency stream before copies.1 side place h)
  where
    at : (b : Bool) → is_side frame.side side ≡ b → (count_of side before ≡ suc place → WasSent stream place before) →
        WasSent stream place (frame ∷ before)
    at true e older =
        let same : count_of frame.side before ≡ place =
        ap (λ s. count_of s before) (is_side-same frame.side side e)
        ∙ suc_same (count_of side before) place (sym (count_more side frame before e) ∙ count) in
        record {
          sending = copies.0.sending;
          at_place = ap (slice_get stream) (sym same) ∙ copies.0.at_place;
          before = λ t upto. omega (arith, copies.0.sent_before, upto);
        }
      where
        suc_same : (m n : ℕ) → suc m ≡ suc n → m ≡ n
        suc_same m n h = omega (arith, h)
    at false e older =
        let last : WasSent stream place before = older (sym (count_same side frame before e) ∙ count) in
        record {
          sending = last.sending;
          at_place = last.at_place;
          before = λ t upto. last.before t (if_upto (newest before) frame.time t copies.0.in_order upto);
        }

-- the newest of n first copies was sent as the last of n
abbrev NewestSent : List Sending → Option Incoming → ℕ → Type 0
NewestSent stream first n =
    MatchOption first (n ≡ 0) (λ frame. (k : ℕ) × (n ≡ suc k) × (y : Sending)
    × (slice_get stream k ≡ Some y) × (y.time ≤ frame.time))

newest_at : (stream : List Sending) (o p : Option Incoming) (m n : ℕ) → o ≡ p → m ≡ n
    → NewestSent stream p n → NewestSent stream o m
newest_at stream o p m n e f h = rw (e, f) h

newest_sent : (latency : ℕ) (stream : List Sending) (came : List Incoming) → AreCopies latency stream came →
    NewestSent stream (newest (first_copies came)) (length (first_copies came))
newest_sent latency stream [] copies = refl
newest_sent latency stream (frame ∷ before) copies =
    at (is_first_copy before frame) refl (newest_sent latency stream before copies.1)
  where
    at : (b : Bool) → is_first_copy before frame ≡ b
        → NewestSent stream (newest (first_copies before)) (length (first_copies before)) →
        NewestSent stream (newest (first_copies (frame ∷ before))) (length (first_copies (frame ∷ before)))
    at true e so_far =
        let now : first_copies (frame ∷ before) ≡ frame ∷ first_copies before =
        cond-true (is_first_copy before frame) (frame ∷ first_copies before)
        (first_copies before) e in
        newest_at stream (newest (first_copies (frame ∷ before))) (Some frame)
        (length (first_copies (frame ∷ before))) (suc (length (first_copies before)))
        (ap newest now) (ap length now) (
          length (first_copies before),
          refl,
          copies.0.sending,
          ap (slice_get stream) (sym (own_place before frame e))
              ∙ copies.0.at_place,
          copies.0.sent_before,
        )
    at false e so_far =
        let now : first_copies (frame ∷ before) ≡ first_copies before =
        cond-false (is_first_copy before frame) (frame ∷ first_copies before)
        (first_copies before) e in
        newest_at stream (newest (first_copies (frame ∷ before))) (newest (first_copies before))
        (length (first_copies (frame ∷ before)))
        (length (first_copies before)) (ap newest now) (ap length now) so_far

-- ---- a late copy comes soon, and is near

-- a copy of 129 places before comes too late, where the latency is at most 100 ms and the gap at least 1 ms
too_far : (gap shift latency d r late y last t : ℕ) → 128 ≤ d → r + gap * d ≤ late → late ≤ last
    → last ≤ t → t ≤ y + latency → y ≤ r + shift →
    shift ≤ gap → latency ≤ 100000000 → 1000000 ≤ gap → ⊥
too_far gap shift latency d r late y last t far apart low came in_time high small fast wide =
    let many : gap * 128 ≤ gap * d = mul-le-mul_left gap far in
    omega (arith, many, apart, low, came, in_time, high, small, fast, wide)

pub near : (gap shift latency : ℕ) (moments : List ℕ) (stream : List Sending)
    → IsSpaced gap shift moments stream → shift ≤ gap → latency ≤ 100000000 →
    1000000 ≤ gap →
    (before : List Incoming) (frame : Incoming) → AreCopies latency stream (frame ∷ before) →
    count_of (other_side frame.side) before ≤ count_of frame.side before + 128
near gap shift latency moments stream spaced small fast wide before frame copies =
    at (cases_lt (count_of frame.side before + 128) (count_of (other_side frame.side) before))
  where
    far_off : (place : ℕ) → count_of (other_side frame.side) before ≡ suc place → (d : ℕ)
        → place ≡ count_of frame.side before + d → 128 ≤ d → ⊥
    far_off place count d apart far =
        let last = last_sent latency stream before copies.1 (other_side frame.side) place count in
        let there : slice_get stream (count_of frame.side before + d) ≡ Some last.sending =
        ap (slice_get stream) (sym apart) ∙ last.at_place in
        let early = moment_at gap shift moments stream spaced (count_of frame.side before)
        copies.0.sending copies.0.at_place in
        let late = moment_at gap shift moments stream spaced (count_of frame.side before + d) last.sending there in
        too_far gap shift latency d early.moment late.moment copies.0.sending.time last.sending.time frame.time far
        (spread gap moments spaced.apart (count_of frame.side before) d early.moment late.moment
        early.at_place late.at_place)
        late.low (last.before frame.time copies.0.in_order) copies.0.in_time early.high small fast wide

    split : (m n : ℕ) → n + 128 < m → (place : ℕ) × (m ≡ suc place) × ((d : ℕ) × (place ≡ n + d) × (128 ≤ d))
    split m n h = (n + (m - (n + 1)), omega (arith, h), (m - (n + 1), refl, omega (arith, h)))

    at : (count_of frame.side before + 128 < count_of (other_side frame.side) before)
        ⊎ (count_of (other_side frame.side) before ≤ count_of frame.side before + 128) →
        count_of (other_side frame.side) before ≤ count_of frame.side before + 128
    at (inl beyond) = let parts = split (count_of (other_side frame.side) before) (count_of frame.side before) beyond in
        absurd (far_off parts.0 parts.1 parts.2.0 parts.2.1 parts.2.2)
    at (inr close) = close

pub soon : (gap shift latency skew : ℕ) (moments : List ℕ) (stream : List Sending)
    → IsSpaced gap shift moments stream → shift ≤ gap → latency ≤ skew →
    (before : List Incoming) (frame : Incoming) → AreCopies latency stream (frame ∷ before)
    → is_first_copy before frame ≡ false →
    IfSome (newest (first_copies before)) (λ first. frame.time ≤ first.time + skew)
soon gap shift latency skew moments stream spaced small fast before frame copies late =
    at (newest (first_copies before)) (newest_sent latency stream before copies.1)
  where
    behind : count_of frame.side before < count_of (other_side frame.side) before
    behind = leb-false (count_of (other_side frame.side) before) (count_of frame.side before) late

    most : length (first_copies before) ≡ max (count_of frame.side before) (count_of (other_side frame.side) before)
    most = counted before ∙ sym (most_any frame.side before)

    ahead : (n own other : ℕ) → n ≡ max own other → own < other → (k : ℕ) → n ≡ suc k → (d : ℕ) × (k ≡ own + d)
    ahead n own other m less k e = (k - own, omega (arith, m, less, e))

    at : (o : Option Incoming) → NewestSent stream o (length (first_copies before))
        → IfSome o (λ first. frame.time ≤ first.time + skew)
    at None none = tt
    at (Some first) sent =
        let apart = ahead (length (first_copies before)) (count_of frame.side before)
        (count_of (other_side frame.side) before) most behind sent.0 sent.1 in
        let ordered : copies.0.sending.time ≤ sent.2.time =
        sent_in_order gap shift moments stream spaced small (count_of frame.side before) apart.0 copies.0.sending sent.2
        copies.0.at_place (ap (slice_get stream) (sym apart.1) ∙ sent.3) in
        omega (arith, copies.0.in_time, ordered, sent.4, fast)
