-- With exact stamps a stream has an explanation exactly where it is as the headline says.
use Rattle.std.proofs.Common.{◌≡◌, ℕ, ◌+◌, ◌*◌, ◌-◌, ◌/◌, ◌%◌, ◌&&◌, List, [], ◌∷◌, length, refl, sym, ◌∙◌, subst, arith}
use Rattle.std.proofs.Math.Nat.{mul-div_cancel_left, mod-eq-sub-mul-div}
use Rattle.std.proofs.lemmas.Bool.{leb-true, le-leb, and_from, and_parts}
use Rattle.std.proofs.lemmas.Slice.Eq.{bytes_eq-Decides}
use Rattle.std.specs.Prelude.{IsTrue, Option, None}
use Rattle.std.specs.Int.{div_ceil}
use Rattle.std.specs.List.{AllByRecursion}
use Rattle.std.specs.Str.{bytes_eq}
use Rattle.afdx_frame.specs.Regulation.{is_bag}
use Rattle.afdx_police.specs.Arrival.{Arrival}
use Rattle.afdx_police.specs.Rule.{Rule}
use Rattle.afdx_police.specs.Verdicts.{accepted_arrivals}
use Rattle.afdx_conform.specs.Streams.{Gone, Terms, fits, is_begun, is_no_sooner, is_in_time, wire_time, latency}
use Rattle.afdx_conform.specs.Explanations.{Answered, AreAllowed, ArePairs, Explains, accepted_in, arrivals_in}
use Rattle.afdx_conform.specs.Headline.{sound_of, GoByTime, IsItsFrame, AreTheirFrames, IsAsTheHeadline}
use Rattle.afdx_conform.specs.Laws.{ExactIsTheHeadline, ExactShowsAll}
use Rattle.afdx_conform.proofs.ExactLemmas as exact
use Rattle.afdx_conform.proofs.ExactLemmas.{exactly, some-answers}

whole-div : (w : ℕ) → 1000000 * w / 1000000 ≡ w
whole-div w = mul-div_cancel_left w (omega arith)

whole-ceil : (w : ℕ) → div_ceil (1000000 * w) 1000000 ≡ w
whole-ceil w =
    let quotient = whole-div w in
    let rest : (1000000 * w) % 1000000 ≡ 1000000 * w - 1000000 * (1000000 * w / 1000000) =
    mod-eq-sub-mul-div (1000000 * w) 1000000 in
    let none : (1000000 * w) % 1000000 ≡ 0 = omega (arith, rest, quotient) in
    omega (arith, none, quotient)

module _ (rule : Rule) (is : IsTrue (is_bag rule.bag_ms)) (latency_ns byte_ns inner until : ℕ) where
  abbrev z : Terms
  z = exact.z rule is latency_ns byte_ns inner until

  fits-frame : (x : Arrival) (y : Gone) → IsTrue (fits z x y) → IsItsFrame z x y
  unfolding fits
  fits-frame x y h =
      let both = and_parts (bytes_eq x.bytes y.bytes && is_no_sooner z x y) (is_in_time z x y) h in
      let two = and_parts (bytes_eq x.bytes y.bytes) (is_no_sooner z x y) both.0 in
      let stored = leb-true (x.time + wire_time z x.bytes) (y.time + (0 + (0 + 0))) two.1 in
      let in_time = leb-true y.time (x.time + latency z + (0 + (0 + 0))) both.1 in
      let w = whole-ceil ((length x.bytes + 8) * byte_ns) in
      let d = whole-div (latency_ns + inner) in
      record {
        bytes = (bytes_eq-Decides x.bytes y.bytes).0 two.0;
        no_sooner = omega (arith, stored, w);
        in_time = omega (arith, in_time, d);
      }

  frame-fits : (x : Arrival) (y : Gone) → IsItsFrame z x y → IsTrue (fits z x y)
  unfolding fits
  frame-fits x y h =
      let w = whole-ceil ((length x.bytes + 8) * byte_ns) in
      let d = whole-div (latency_ns + inner) in
      let sooner = h.no_sooner in
      let in_time = h.in_time in
      and_from (bytes_eq x.bytes y.bytes && is_no_sooner z x y) (is_in_time z x y)
      (and_from (bytes_eq x.bytes y.bytes) (is_no_sooner z x y) ((bytes_eq-Decides x.bytes y.bytes).1 h.bytes)
      (le-leb (x.time + wire_time z x.bytes) (y.time + (0 + (0 + 0))) (omega (arith, sooner, w))))
      (le-leb y.time (x.time + latency z + (0 + (0 + 0))) (omega (arith, in_time, d)))

  none-begun : (ys : List Gone) → AllByRecursion (λ y. IsTrue (is_begun z y)) ys → AreTheirFrames z [] ys
  unfolding is_begun AreTheirFrames
  none-begun [] all = tt
  none-begun (y ∷ ys) all = let h = all.0 in absurd (cc)

  pairs-frames : (xs : List Arrival) (ys : List Gone) → ArePairs z xs ys → AreTheirFrames z xs ys
  unfolding ArePairs AreTheirFrames
  pairs-frames [] ys h = none-begun ys h
  pairs-frames (x ∷ xs) [] h = absurd h
  pairs-frames (x ∷ xs) (y ∷ ys) h = (fits-frame x y h.0, pairs-frames xs ys h.1)

  frames-pairs : (xs : List Arrival) (ys : List Gone) → AreTheirFrames z xs ys → ArePairs z xs ys
  unfolding ArePairs AreTheirFrames
  frames-pairs [] [] h = tt
  frames-pairs [] (y ∷ ys) h = absurd h
  frames-pairs (x ∷ xs) [] h = absurd h
  frames-pairs (x ∷ xs) (y ∷ ys) h = (frame-fits x y h.0, frames-pairs xs ys h.1)

  there : (own : List Arrival) (frames : List Gone) → GoByTime own → Explains z (sound_of rule own) frames
      → IsAsTheHeadline z own frames
  there own frames order e =
      let at = exactly rule is latency_ns byte_ns inner until own order e.answers e.are_answered e.are_allowed in
      record {
        waiting = e.waiting;
        took = e.took;
        accepted = sym at.same ∙ e.accepted;
        are_open = e.are_open;
        are_frames = pairs-frames e.took frames e.are_pairs;
      }

  all-there : (own : List Arrival) (frames : List Gone) → GoByTime own → (answers : List Answered)
      → arrivals_in answers ≡ sound_of rule own → AreAllowed z answers → ArePairs z (accepted_in answers) frames
      → AreTheirFrames z (accepted_arrivals rule own) frames
  all-there own frames order answers same allowed pairs =
      let at = exactly rule is latency_ns byte_ns inner until own order answers same allowed in
      subst (λ (xs : List Arrival). AreTheirFrames z xs frames) at.same (pairs-frames (accepted_in answers) frames
      pairs)

  back : (own : List Arrival) (frames : List Gone) → GoByTime own → IsAsTheHeadline z own frames
      → Explains z (sound_of rule own) frames
  back own frames order h =
      let some = some-answers rule is latency_ns byte_ns inner until own order in
      let at = some.1 in
      record {
        answers = some.0;
        are_answered = at.are_answered;
        are_allowed = at.are_allowed;
        waiting = h.waiting;
        took = h.took;
        accepted = at.same ∙ h.accepted;
        are_open = h.are_open;
        are_pairs = frames-pairs h.took frames h.are_frames;
      }

abbrev terms-with : Rule → ℕ → ℕ → ℕ → ℕ → ℕ → ℕ → ℕ → ℕ → Option ℕ → Terms
terms-with rule latency_ns byte_ns until s b d i q st = record {
  rule = rule;
  latency_ns = latency_ns;
  byte_ns = byte_ns;
  by = record { slack = s; between = b; drift = d; inner = i; asked = q; start = st };
  until = until;
}

same-terms : (rule : Rule) (latency_ns byte_ns until s b d i q : ℕ) (st : Option ℕ) → s ≡ 0 → b ≡ 0 → d ≡ 0 → q ≡ 0
    → st ≡ None
    → terms-with rule latency_ns byte_ns until s b d i q st ≡ terms-with rule latency_ns byte_ns until 0 0 0 i 0 None
same-terms rule latency_ns byte_ns until s b d i q st at apart rate asks from = rw (at, apart, rate, asks, from) refl

pub exact_is_the_headline : ExactIsTheHeadline
exact_is_the_headline z own frames e is order =
    let same : z ≡ terms-with z.rule z.latency_ns z.byte_ns z.until 0 0 0 z.by.inner 0 None =
    same-terms z.rule z.latency_ns z.byte_ns z.until z.by.slack z.by.between z.by.drift z.by.inner z.by.asked z.by.start
    e.account.slack e.between e.account.drift e.account.asked e.account.start in (
      λ h. subst (λ (t : Terms). IsAsTheHeadline t own frames) (sym same)
          (there z.rule is z.latency_ns z.byte_ns z.by.inner z.until own frames order
          (subst (λ (t : Terms). Explains t (sound_of z.rule own) frames) same h)),
      λ h. subst (λ (t : Terms). Explains t (sound_of z.rule own) frames) (sym same)
          (back z.rule is z.latency_ns z.byte_ns z.by.inner z.until own frames order
          (subst (λ (t : Terms). IsAsTheHeadline t own frames) same h)),
    )

pub exact_shows_all : ExactShowsAll
exact_shows_all z own frames answers e is order answered allowed pairs =
    let same : z ≡ terms-with z.rule z.latency_ns z.byte_ns z.until 0 0 0 z.by.inner 0 None =
    same-terms z.rule z.latency_ns z.byte_ns z.until z.by.slack z.by.between z.by.drift z.by.inner z.by.asked z.by.start
    e.account.slack e.between e.account.drift e.account.asked e.account.start in
    subst (λ (t : Terms). AreTheirFrames t (accepted_arrivals z.rule own) frames) (sym same)
    (all-there z.rule is z.latency_ns z.byte_ns z.by.inner z.until own frames order answers answered
    (subst (λ (t : Terms). AreAllowed t answers) same allowed)
    (subst (λ (t : Terms). ArePairs t (accepted_in answers) frames) same pairs))
