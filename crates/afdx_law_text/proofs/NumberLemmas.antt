-- What is so of arrivals is so of the same ones under any numbers. Lists have the newest first.
use Rattle.std.proofs.Common.{◌≡◌, ℕ, ◌+◌, ◌*◌, ◌≤◌, Bool, true, false, ◌&&◌, List, [], ◌∷◌, length, refl, sym, ap, ◌∙◌, subst, arith}
use Rattle.std.specs.Prelude.{filter, is_none, if◌then◌else◌}
use Rattle.std.specs.List.{AllByRecursion}
use Rattle.afdx_frame.specs.declared.link.Side.{Side}
use Rattle.afdx_police.specs.Arrival.{Arrival, is_side, names, own}
use Rattle.afdx_police.specs.Rule.{Rule}
use Rattle.afdx_police.specs.Verdicts.{accepted_arrivals, accepted_own, charged_by, drop_reason, reason_after}
use Rattle.afdx_police.specs.Window.{Charged}
use Rattle.afdx_conform.specs.Headline.{GoByTime, AreTheirFrames}
use Rattle.afdx_conform.specs.Streams.{Gone, Terms}
use Rattle.afdx_law_text.specs.Recorded.{AreSameArrivals, IsSameArrival}

pub same-itself : (x : Arrival) → IsSameArrival x x
same-itself x = record { time = refl; side = refl; port = refl; bytes = refl }

-- ---- what is left by a test that reads no number

-- these are some arrivals under the numbers of those of them that pass the test
pub record IsNumbered (test : Arrival → Bool) (arrivals came : List Arrival) : Type 0 where
  pub numbered : List Arrival
  pub same : AreSameArrivals arrivals numbered
  pub kept : came ≡ filter test numbered

module _ (test : Arrival → Bool) (reads : (x y : Arrival) → IsSameArrival x y → test y ≡ test x) where
  pub same-filter : (xs ys : List Arrival) → AreSameArrivals xs ys → AreSameArrivals (filter test xs) (filter test ys)
  unfolding AreSameArrivals
  same-filter [] [] are = tt
  same-filter [] (y ∷ ys) are = absurd are
  same-filter (x ∷ xs) [] are = absurd are
  same-filter (x ∷ xs) (y ∷ ys) are = by (test x) refl (same-filter xs ys are.1)
    where
      by : (b : Bool) → test x ≡ b → AreSameArrivals (filter test xs) (filter test ys)
          → AreSameArrivals (if b then x ∷ filter test xs else filter test xs) (filter test (y ∷ ys))
      by true e rest = rw (reads x y are.0, e) (are.0, rest)
      by false e rest = rw (reads x y are.0, e) rest

  pub numbered-as : (arrivals came : List Arrival) → AreSameArrivals (filter test arrivals) came
      → IsNumbered test arrivals came
  unfolding AreSameArrivals
  numbered-as [] [] are = record { numbered = []; same = tt; kept = refl }
  numbered-as [] (y ∷ ys) are = absurd are
  numbered-as (x ∷ xs) came are = by (test x) refl are (λ ys more. numbered-as xs ys more)
    where
      with-one : (ys : List Arrival) → test x ≡ true → AreSameArrivals (x ∷ filter test xs) ys
          → ((zs : List Arrival) → AreSameArrivals (filter test xs) zs → IsNumbered test xs zs)
          → IsNumbered test (x ∷ xs) ys
      with-one [] e these later = absurd these
      with-one (y ∷ ys) e these later =
          let rest = later ys these.1 in
          record {
            numbered = y ∷ rest.numbered;
            same = (these.0, rest.same);
            kept = rw (reads x y these.0, e) (ap (λ (l : List Arrival). y ∷ l) rest.kept);
          }

      by : (b : Bool) → test x ≡ b → AreSameArrivals (if b then x ∷ filter test xs else filter test xs) came
          → ((zs : List Arrival) → AreSameArrivals (filter test xs) zs → IsNumbered test xs zs)
          → IsNumbered test (x ∷ xs) came
      by true e these later = with-one came e these later
      by false e these later =
          let rest = later came these in
          record { numbered = x ∷ rest.numbered; same = (same-itself x, rest.same); kept = rw e rest.kept }

pub same-own : (vl : ℕ) (side : Side) (xs ys : List Arrival) → AreSameArrivals xs ys
    → AreSameArrivals (own vl side xs) (own vl side ys)
same-own vl side xs ys are =
    same-filter (λ x. is_side side x.side && names vl x.bytes) (λ x y h. rw (h.side, h.bytes) refl) xs ys are

-- ---- times

pub same-go : (xs ys : List Arrival) → AreSameArrivals xs ys → GoByTime xs → GoByTime ys
unfolding AreSameArrivals GoByTime
same-go [] [] are order = tt
same-go [] (y ∷ ys) are order = absurd are
same-go (x ∷ xs) [] are order = absurd are
same-go (x ∷ xs) (y ∷ ys) are order = (below xs ys are.1 order.0, same-go xs ys are.1 order.1)
  where
    below : (vs ws : List Arrival) → AreSameArrivals vs ws → AllByRecursion (λ w. w.time ≤ x.time) vs
        → AllByRecursion (λ w. w.time ≤ y.time) ws
    below [] [] these all = tt
    below [] (w ∷ ws) these all = absurd these
    below (v ∷ vs) [] these all = absurd these
    below (v ∷ vs) (w ∷ ws) these all =
        let one = these.0.time in
        let two = are.0.time in
        let h = all.0 in
        (omega (arith, one, two, h), below vs ws these.1 all.1)

-- ---- verdicts

module _ (rule : Rule) where
  same-charged : (x y : Arrival) → IsSameArrival x y → charged_by rule y ≡ charged_by rule x
  same-charged x y h = rw (h.time, h.bytes) refl

  same-reason : (acc : List Charged) (x y : Arrival) → IsSameArrival x y
      → drop_reason rule acc y ≡ drop_reason rule acc x
  same-reason acc x y h = rw (h.time, h.port, h.bytes) refl

  same-accepted-own : (xs ys : List Arrival) → AreSameArrivals xs ys → accepted_own rule xs ≡ accepted_own rule ys
  unfolding AreSameArrivals accepted_own
  same-accepted-own [] [] are = refl
  same-accepted-own [] (y ∷ ys) are = absurd are
  same-accepted-own (x ∷ xs) [] are = absurd are
  same-accepted-own (x ∷ xs) (y ∷ ys) are =
      let rest = same-accepted-own xs ys are.1 in
      ap (λ (acc : List Charged). if is_none (drop_reason rule acc x) then charged_by rule x ∷ acc else acc) rest
      ∙ sym (rw (same-reason (accepted_own rule ys) x y are.0, same-charged x y are.0) refl)

  same-verdict : (xs ys : List Arrival) (x y : Arrival) → AreSameArrivals xs ys → IsSameArrival x y
      → reason_after rule ys y ≡ reason_after rule xs x
  unfolding reason_after
  same-verdict xs ys x y are h =
      same-reason (accepted_own rule ys) x y h
      ∙ ap (λ (acc : List Charged). drop_reason rule acc x) (sym (same-accepted-own xs ys are))

  pub same-accepted : (xs ys : List Arrival) → AreSameArrivals xs ys
      → AreSameArrivals (accepted_arrivals rule xs) (accepted_arrivals rule ys)
  unfolding AreSameArrivals accepted_arrivals
  same-accepted [] [] are = tt
  same-accepted [] (y ∷ ys) are = absurd are
  same-accepted (x ∷ xs) [] are = absurd are
  same-accepted (x ∷ xs) (y ∷ ys) are = by (is_none (reason_after rule xs x)) refl (same-accepted xs ys are.1)
    where
      by : (b : Bool) → is_none (reason_after rule xs x) ≡ b
          → AreSameArrivals (accepted_arrivals rule xs) (accepted_arrivals rule ys)
          → AreSameArrivals (if b then x ∷ accepted_arrivals rule xs else accepted_arrivals rule xs)
          (if is_none (reason_after rule ys y) then y ∷ accepted_arrivals rule ys else accepted_arrivals rule ys)
      by true e rest = rw (same-verdict xs ys x y are.1 are.0, e) (are.0, rest)
      by false e rest = rw (same-verdict xs ys x y are.1 are.0, e) rest

-- ---- frames

pub same-frames : (z : Terms) (xs ys : List Arrival) (gone : List Gone) → AreSameArrivals xs ys
    → AreTheirFrames z xs gone → AreTheirFrames z ys gone
unfolding AreSameArrivals AreTheirFrames
same-frames z [] [] gone are frames = frames
same-frames z [] (y ∷ ys) gone are frames = absurd are
same-frames z (x ∷ xs) [] gone are frames = absurd are
same-frames z (x ∷ xs) (y ∷ ys) [] are frames = absurd frames
same-frames z (x ∷ xs) (y ∷ ys) (g ∷ gone) are frames =
    let h = are.0 in
    let f = frames.0 in
    let time = h.time in
    let soon = subst (λ (b : List ℕ). x.time + (length b + 8) * z.byte_ns ≤ g.time) (sym h.bytes) f.no_sooner in
    let late = f.in_time in (
      record {
        bytes = h.bytes ∙ f.bytes;
        no_sooner = omega (arith, soon, time);
        in_time = omega (arith, late, time);
      },
      same-frames z xs ys gone are.1 frames.1,
    )
