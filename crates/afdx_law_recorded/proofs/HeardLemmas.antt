-- What comes of the frames that were sent on two networks, at times of their own, is two streams in order.
use Rattle.std.proofs.Common.{◌≡◌, ℕ, suc, ◌+◌, ◌*◌, ◌<◌, ◌≤◌, ◌⊎◌, inl, inr, Bool, true, false, Option, Some, None, List, []}
use Rattle.std.proofs.Common.{◌∷◌, length, refl, sym, ◌∙◌, ap, arith, subst}
use Rattle.std.specs.Prelude.{MatchOption, IfSome, filter, max, reverse, take}
use Rattle.std.proofs.lemmas.Bool.{cond-true, cond-false, cases_lt, leb-false}
use Rattle.std.proofs.lemmas.Option.{IfSome_then}
use Rattle.afdx_frame.specs.declared.link.Side.{Side}
use Rattle.afdx_frame.specs.declared.link.Side.TheVariants.{A, B}
use Rattle.afdx_frame.specs.Sides.{is_side}
use Rattle.afdx_frame.proofs.SideLemmas.{is_side-same}
use Rattle.afdx_config.specs.Numbers.{after_steps}
use Rattle.afdx_config.specs.SentList.{Message}
use Rattle.afdx_receive.specs.CopiesApart.{ComeByTime}
use Rattle.afdx_receive.specs.Delivery.{AllCarrySent, CarriesSent, delivered}
use Rattle.afdx_receive.specs.Integrity.{Incoming}
use Rattle.afdx_receive.specs.Redundancy.{newest}
use Rattle.afdx_receive.specs.TwoStreams.{AreTwoStreams, count_of, first_copies, is_first_copy, other_side}
use Rattle.afdx_receive.proofs.DeliveryLemmas.{delivered_once}
use Rattle.afdx_receive.proofs.StreamLemmas.{counted, most_any, own_place, same_self}
use Rattle.afdx_lawful.specs.Sources.{Came}
use Rattle.afdx_law_recorded.proofs.PlaceLemmas.{one-stands, stands_at}

count-more : (side : Side) (frame : Incoming) (before : List Incoming) → is_side frame.side side ≡ true →
    count_of side (frame ∷ before) ≡ suc (count_of side before)
count-more side frame before e =
    ap length (cond-true (is_side frame.side side) (frame ∷ filter (λ (f : Incoming). is_side f.side side) before)
    (filter (λ (f : Incoming). is_side f.side side) before) e)

count-same : (side : Side) (frame : Incoming) (before : List Incoming) → is_side frame.side side ≡ false →
    count_of side (frame ∷ before) ≡ count_of side before
count-same side frame before e =
    ap length (cond-false (is_side frame.side side) (frame ∷ filter (λ (f : Incoming). is_side f.side side) before)
    (filter (λ (f : Incoming). is_side f.side side) before) e)

count-grows : (side : Side) (frame : Incoming) (before : List Incoming) →
    count_of side before ≤ count_of side (frame ∷ before)
count-grows side frame before = at (is_side frame.side side) refl
  where
    at : (b : Bool) → is_side frame.side side ≡ b → count_of side before ≤ count_of side (frame ∷ before)
    at true e = omega (arith, count-more side frame before e)
    at false e = omega (arith, count-same side frame before e)

up-to : (o : Option Incoming) (m n : ℕ) → IfSome o (λ f. f.time ≤ m) → m ≤ n → IfSome o (λ f. f.time ≤ n)
up-to o m n h le = IfSome_then o h (λ f below. omega (arith, below, le))

-- over numbers: 128 gaps are more than the skew and what a frame may take
too-far : (gap skew early late least t : ℕ) → early + gap * 128 ≤ late + gap → late ≤ t →
    t ≤ early + least + skew → least ≤ 24 * gap → skew ≤ 100000000 → 1000000 ≤ gap → ⊥
too-far gap skew early late least t apart came in_time quick fast wide =
    omega (arith, apart, came, in_time, quick, fast, wide)

-- the frames that were sent on each side, and how long each takes at least; all times in ns
module _ (sent : Side → List Came) (least : Came → ℕ) (gap latency skew : ℕ) (messages : List Message) where
  -- the frame is that of a place of its side
  pub record IsSentAt (place : ℕ) (frame : Incoming) : Type 0 where
    pub sending : Came
    pub at_place : stands_at (sent frame.side) place ≡ Some sending
    pub number : frame.number ≡ after_steps place 0
    pub carries : CarriesSent messages place frame
    pub no_sooner : sending.time + least sending ≤ frame.time
    pub in_time : frame.time ≤ sending.time + latency

  -- these are the first ones of a side
  abbrev pub AreFirstSent : List Incoming → Type 0
  AreFirstSent [] = Unit {0}
  AreFirstSent (frame ∷ past) = IsSentAt (length past) frame × AreFirstSent past

  -- the next one of its side, not before those that came
  record IsNextSent (before : List Incoming) (frame : Incoming) : Type 0 where
    sent_at : IsSentAt (count_of frame.side before) frame
    in_order : IfSome (newest before) (λ last. last.time ≤ frame.time)

  abbrev AreSentByTime : List Incoming → Type 0
  AreSentByTime [] = Unit {0}
  AreSentByTime (frame ∷ before) = IsNextSent before frame × AreSentByTime before

  -- the frame of a place of a side came by the newest time
  record HasCome (side : Side) (place : ℕ) (came : List Incoming) : Type 0 where
    sending : Came
    at_place : stands_at (sent side) place ≡ Some sending
    by : (t : ℕ) → IfSome (newest came) (λ last. last.time ≤ t) → sending.time + least sending ≤ t

  has-come : (came : List Incoming) → AreSentByTime came → (side : Side) (place : ℕ) → place < count_of side came →
      HasCome side place came
  has-come [] all side place count = absurd (omega (arith, count))
  has-come (frame ∷ before) all side place count =
      at (is_side frame.side side) refl (λ h. has-come before all.1 side place h)
    where
      older : (place < count_of side before → HasCome side place before) → place < count_of side before →
          HasCome side place (frame ∷ before)
      older rest h =
          let last : HasCome side place before = rest h in
          record {
            sending = last.sending;
            at_place = last.at_place;
            by = λ t upto. last.by t (up-to (newest before) frame.time t all.0.in_order upto);
          }

      this : frame.side ≡ side → place ≡ count_of side before → HasCome side place (frame ∷ before)
      this own here =
          let same : count_of frame.side before ≡ place = ap (λ t. count_of t before) own ∙ sym here in
          let came_by = all.0.sent_at.no_sooner in
          record {
            sending = all.0.sent_at.sending;
            at_place = ap (λ (t : Side). stands_at (sent t) place) (sym own)
                ∙ ap (stands_at (sent frame.side)) (sym same) ∙ all.0.sent_at.at_place;
            by = λ t upto. omega (arith, came_by, upto);
          }

      split : (m n : ℕ) → m < suc n → (m < n) ⊎ (m ≡ n)
      split m n h = which (cases_lt m n)
        where
          which : (m < n) ⊎ (n ≤ m) → (m < n) ⊎ (m ≡ n)
          which (inl less) = inl less
          which (inr more) = inr (omega (arith, h, more))

      at : (b : Bool) → is_side frame.side side ≡ b → (place < count_of side before → HasCome side place before) →
          HasCome side place (frame ∷ before)
      at true e rest = which (split place (count_of side before) (omega (arith, count, count-more side frame before e)))
        where
          which : (place < count_of side before) ⊎ (place ≡ count_of side before) → HasCome side place (frame ∷ before)
          which (inl less) = older rest less
          which (inr here) = this (is_side-same frame.side side e) here
      at false e rest = older rest (omega (arith, count, count-same side frame before e))

  -- the newest first copy came by a side, at the last place of the first copies, and behind all that was sent there
  record IsNewestFirst (n : ℕ) (came : List Incoming) (first : Incoming) : Type 0 where
    side : Side
    counted_there : n ≤ count_of side came
    behind : (place : ℕ) → place < n → (y : Came) → stands_at (sent side) place ≡ Some y → y.time + least y ≤ first.time

  abbrev NewestIs : Option Incoming → ℕ → List Incoming → Type 0
  NewestIs o n came = MatchOption o (n ≡ 0) (λ first. IsNewestFirst n came first)

  newest-with : (o p : Option Incoming) (m n : ℕ) (came : List Incoming) → o ≡ p → m ≡ n → NewestIs p n came →
      NewestIs o m came
  newest-with o p m n came e f h = rw (e, f) h

  newest-first : (came : List Incoming) → AreSentByTime came →
      NewestIs (newest (first_copies came)) (length (first_copies came)) came
  newest-first [] all = refl
  newest-first (frame ∷ before) all = at (is_first_copy before frame) refl (newest-first before all.1)
    where
      grown : (o : Option Incoming) (n : ℕ) → NewestIs o n before → NewestIs o n (frame ∷ before)
      grown None n h = h
      grown (Some first) n h = record {
        side = h.side;
        counted_there = omega (arith, h.counted_there, count-grows h.side frame before);
        behind = h.behind;
      }

      at : (b : Bool) → is_first_copy before frame ≡ b →
          NewestIs (newest (first_copies before)) (length (first_copies before)) before →
          NewestIs (newest (first_copies (frame ∷ before))) (length (first_copies (frame ∷ before))) (frame ∷ before)
      at true e so_far =
          let now : first_copies (frame ∷ before) ≡ frame ∷ first_copies before =
          cond-true (is_first_copy before frame) (frame ∷ first_copies before) (first_copies before) e in
          let own : length (first_copies before) ≡ count_of frame.side before = sym (own_place before frame e) in
          let there : count_of frame.side (frame ∷ before) ≡ suc (count_of frame.side before) =
          count-more frame.side frame before (same_self frame.side) in
          newest-with (newest (first_copies (frame ∷ before))) (Some frame)
          (length (first_copies (frame ∷ before))) (suc (length (first_copies before))) (frame ∷ before)
          (ap newest now) (ap length now) (record {
            side = frame.side;
            counted_there = omega (arith, own, there);
            behind = λ place less y here.
                let come = has-come (frame ∷ before) all frame.side place (omega (arith, less, own, there)) in
                let same : come.sending ≡ y = one-stands (sent frame.side) place come.sending y come.at_place here in
                let by : come.sending.time + least come.sending ≤ frame.time = come.by frame.time (omega arith) in
                subst (λ (w : Came). w.time + least w ≤ frame.time) same by;
          })
      at false e so_far =
          let now : first_copies (frame ∷ before) ≡ first_copies before =
          cond-false (is_first_copy before frame) (frame ∷ first_copies before) (first_copies before) e in
          newest-with (newest (first_copies (frame ∷ before))) (newest (first_copies before))
          (length (first_copies (frame ∷ before))) (length (first_copies before)) (frame ∷ before)
          (ap newest now) (ap length now)
          (grown (newest (first_copies before)) (length (first_copies before)) so_far)

  -- Frames are spaced on each side; of one place the copies on both are so near each other, where both were sent; and
  -- on its way a frame takes at most 24 gaps.
  pub record AreNearEnough : Type 0 where
    pub wide : 1000000 ≤ gap
    pub fast : skew ≤ 100000000
    pub spaced : (side : Side) (k : ℕ) (y z : Came) → stands_at (sent side) k ≡ Some y →
        stands_at (sent side) (k + 128) ≡ Some z → y.time + gap * 128 ≤ z.time + gap
    pub near : (a b : Side) (k : ℕ) (y z : Came) → stands_at (sent a) k ≡ Some y → stands_at (sent b) k ≡ Some z →
        y.time + latency ≤ z.time + least z + skew
    pub quick : (side : Side) (k : ℕ) (y : Came) → stands_at (sent side) k ≡ Some y → least y ≤ 24 * gap

  module _ (is : AreNearEnough) where
    near-by : (before : List Incoming) (frame : Incoming) → AreSentByTime (frame ∷ before) →
        count_of (other_side frame.side) before ≤ count_of frame.side before + 128
    near-by before frame all =
        at (cases_lt (count_of frame.side before + 128) (count_of (other_side frame.side) before))
      where
        far-off : count_of frame.side before + 128 < count_of (other_side frame.side) before → ⊥
        far-off within =
            let there : Side = other_side frame.side in
            let at_place : ℕ = count_of frame.side before in
            let first = has-come before all.1 there at_place (omega (arith, within)) in
            let last = has-come before all.1 there (at_place + 128) within in
            let by : last.sending.time + least last.sending ≤ frame.time = last.by frame.time all.0.in_order in
            let apart : first.sending.time + gap * 128 ≤ last.sending.time + gap =
            is.spaced there at_place first.sending last.sending first.at_place last.at_place in
            let soon = is.near frame.side there at_place all.0.sent_at.sending first.sending all.0.sent_at.at_place
            first.at_place in
            let latest = all.0.sent_at.in_time in
            too-far gap skew first.sending.time last.sending.time (least first.sending) frame.time apart
            (omega (arith, by)) (omega (arith, latest, soon))
            (is.quick there at_place first.sending first.at_place) is.fast is.wide

        at : (count_of frame.side before + 128 < count_of (other_side frame.side) before)
            ⊎ (count_of (other_side frame.side) before ≤ count_of frame.side before + 128) →
            count_of (other_side frame.side) before ≤ count_of frame.side before + 128
        at (inl far) = absurd (far-off far)
        at (inr close) = close

    soon : (before : List Incoming) (frame : Incoming) → AreSentByTime (frame ∷ before) →
        is_first_copy before frame ≡ false →
        IfSome (newest (first_copies before)) (λ first. frame.time ≤ first.time + skew)
    soon before frame all late = at (newest (first_copies before)) (newest-first before all.1)
      where
        behind : count_of frame.side before < count_of (other_side frame.side) before
        behind = leb-false (count_of (other_side frame.side) before) (count_of frame.side before) late

        most : length (first_copies before)
            ≡ max (count_of frame.side before) (count_of (other_side frame.side) before)
        most = counted before ∙ sym (most_any frame.side before)

        less : (n own other : ℕ) → n ≡ max own other → own < other → own < n
        less n own other m h = omega (arith, m, h)

        at : (o : Option Incoming) → NewestIs o (length (first_copies before)) before →
            IfSome o (λ first. frame.time ≤ first.time + skew)
        at None none = tt
        at (Some first) newest_is =
            let here : ℕ = count_of frame.side before in
            let within : here < length (first_copies before) =
            less (length (first_copies before)) here (count_of (other_side frame.side) before) most behind in
            let come = has-come before all.1 newest_is.side here (omega (arith, within, newest_is.counted_there)) in
            let came_first : come.sending.time + least come.sending ≤ first.time =
            newest_is.behind here within come.sending come.at_place in
            let close = is.near frame.side newest_is.side here all.0.sent_at.sending come.sending
            all.0.sent_at.at_place come.at_place in
            let latest = all.0.sent_at.in_time in
            omega (arith, latest, close, came_first)

    two-streams : (came : List Incoming) → AreSentByTime came → AreTwoStreams skew came × AllCarrySent messages came
    two-streams [] all = (tt, tt)
    two-streams (frame ∷ before) all =
        let older = two-streams before all.1 in (
          (
            record {
              number = all.0.sent_at.number;
              soon = soon before frame all;
              near = near-by before frame all;
            },
            older.0,
          ),
          (all.0.sent_at.carries, older.1),
        )

    -- ---- by the frames of each side

    abbrev of-side : Side → List Incoming → List Incoming
    of-side side frames = filter (λ (f : Incoming). is_side f.side side) frames

    -- what came before is the first of each side too
    fewer : (side : Side) (frame : Incoming) (before : List Incoming) → AreFirstSent (of-side side (frame ∷ before)) →
        AreFirstSent (of-side side before)
    fewer side frame before firsts = at (is_side frame.side side) refl
      where
        rest : (all : List Incoming) → all ≡ frame ∷ of-side side before → AreFirstSent all →
            AreFirstSent (of-side side before)
        rest all e h = let whole : AreFirstSent (frame ∷ of-side side before) =
            subst (λ (l : List Incoming). AreFirstSent l) e h in whole.1

        same : (all : List Incoming) → all ≡ of-side side before → AreFirstSent all → AreFirstSent (of-side side before)
        same all e h = subst (λ (l : List Incoming). AreFirstSent l) e h

        at : (b : Bool) → is_side frame.side side ≡ b → AreFirstSent (of-side side before)
        at true e = rest (of-side side (frame ∷ before))
            (cond-true (is_side frame.side side) (frame ∷ of-side side before) (of-side side before) e) firsts
        at false e = same (of-side side (frame ∷ before))
            (cond-false (is_side frame.side side) (frame ∷ of-side side before) (of-side side before) e) firsts

    -- and the frame is the next of its own
    own-next : (frame : Incoming) (before : List Incoming) → AreFirstSent (of-side frame.side (frame ∷ before)) →
        IsSentAt (count_of frame.side before) frame
    own-next frame before firsts = first (of-side frame.side (frame ∷ before))
        (cond-true (is_side frame.side frame.side) (frame ∷ of-side frame.side before) (of-side frame.side before)
        (same_self frame.side)) firsts
      where
        first : (all : List Incoming) → all ≡ frame ∷ of-side frame.side before → AreFirstSent all →
            IsSentAt (count_of frame.side before) frame
        first all e h = let whole : AreFirstSent (frame ∷ of-side frame.side before) =
            subst (λ (l : List Incoming). AreFirstSent l) e h in whole.0

    sides-by-time : (came : List Incoming) → ((side : Side) → AreFirstSent (of-side side came)) → ComeByTime came →
        AreSentByTime came
    sides-by-time [] firsts order = tt
    sides-by-time (frame ∷ before) firsts order = (
      record { sent_at = own-next frame before (firsts frame.side); in_order = order.0 },
      sides-by-time before (λ side. fewer side frame before (firsts side)) order.1,
    )

    pub told_once : (is_open : ℕ → Bool) (came : List Incoming) →
        ((side : Side) → AreFirstSent (filter (λ (f : Incoming). is_side f.side side) came)) → ComeByTime came →
        reverse (delivered skew is_open came)
        ≡ filter (λ (m : Message). is_open m.udp) (take (max (count_of A came) (count_of B came)) messages)
    told_once is_open came firsts order =
        let both = two-streams came (sides-by-time came firsts order) in
        delivered_once skew is_open messages came both.0 both.1
