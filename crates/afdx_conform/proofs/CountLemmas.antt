-- What is counted of a stream.
use Rattle.std.proofs.Common.{◌≡◌, ℕ, ◌+◌, ◌-◌, ◌≤◌, Bool, true, false, List, [], ◌∷◌, map, length, min, refl, sym, ap, ◌∙◌, subst, arith}
use Rattle.std.proofs.lemmas.List.Elements.{recursion_from_All}
use Rattle.std.specs.Prelude.{if◌then◌else◌}
use Rattle.std.specs.List.{AllByRecursion}
use Rattle.afdx_police.specs.Arrival.{Arrival}
use Rattle.afdx_conform.specs.Explanations.{link}
use Rattle.afdx_conform.specs.Findings.{Judged, judged_after}
use Rattle.afdx_conform.specs.Growing.{IsAfter, IsHeld, IsSound, is_some}
use Rattle.afdx_conform.specs.HeldStates.{IsWithin, state_of}
use Rattle.afdx_conform.specs.Histories.{counts_by, counts_with, judged_by, least_from, least_waiting}
use Rattle.afdx_conform.specs.Levels.{Levels, first_levels}
use Rattle.afdx_conform.specs.Limits.{gone_of}
use Rattle.afdx_conform.specs.States.{Event, arrivals_came, State, first_states}
use Rattle.afdx_conform.specs.Streams.{Gone, Terms, is_begun}
use Rattle.afdx_conform.specs.declared.growth.Growth.{Growth}
use Rattle.afdx_conform.specs.declared.states.StreamState.{StreamState}
use Rattle.afdx_conform.proofs.EveryLemmas.{every-on}
use Rattle.afdx_conform.proofs.FindingLemmas.{if-both}
use Rattle.afdx_conform.proofs.HeldLemmas.{if-false}

-- ---- where none waits

from-none : (least : ℕ) (states : List State) → least ≡ 0 → AllByRecursion (λ s. s.waiting ≡ 0) states
    → least_from least states ≡ 0
unfolding least_from
from-none least [] e h = e
from-none least (s ∷ states) e h = let w = h.0 in from-none (min least s.waiting) states (omega (arith, e, w)) h.1

least-none : (states : List State) → AllByRecursion (λ s. s.waiting ≡ 0) states → least_waiting states ≡ 0
least-none [] h = refl
least-none (s ∷ states) h = from-none s.waiting states h.0 h.1

first-none : (z : Terms) (levels : Levels) (ys : List Gone) → AllByRecursion (λ s. s.waiting ≡ 0)
    (first_states z levels ys)
unfolding first_states
first-none z levels [] = (refl, tt)
first-none z levels (y ∷ ys) = (
  refl,
  if-both (λ (l : List State). AllByRecursion (λ s. s.waiting ≡ 0) l) (is_begun z y) (first_states z levels ys) []
      (first-none z levels ys) tt,
)

held-none : (ys : List Gone) (held : List StreamState) → AllByRecursion (λ h. h.waiting ≤ 0) held
    → AllByRecursion (λ s. s.waiting ≡ 0) (map (state_of ys) held)
held-none ys [] h = tt
held-none ys (s ∷ held) h = ((let w = h.0 in omega (arith, w)), held-none ys held h.1)

from-low : (n least : ℕ) (states : List State) → least ≤ n → least_from least states ≤ n
unfolding least_from
from-low n least [] le = le
from-low n least (s ∷ states) le = from-low n (min least s.waiting) states (omega (arith, le))

-- as many at most as came
pub least-low : (g : Growth) (least : ℕ) → least ≡ least_waiting (map (state_of []) g.judging.held.items) → IsSound g
    → least ≤ length g.judging.marks.items
least-low g least e sound = subst (λ (n : ℕ). n ≤ length g.judging.marks.items) (sym e)
    (by g.judging.held.items
    (recursion_from_All (λ v. IsWithin g.bounds.rates (length g.frames.items) (length g.judging.marks.items) v)
    g.judging.held.items sound.within))
  where
    by : (held : List StreamState)
        → AllByRecursion (λ v. IsWithin g.bounds.rates (length g.frames.items) (length g.judging.marks.items) v) held
        → least_waiting (map (state_of []) held) ≤ length g.judging.marks.items
    by [] w = omega arith
    by (v ∷ held) w = from-low (length g.judging.marks.items) v.waiting (map (state_of []) held) w.0.waiting

same-counts : (a b c d e f : ℕ) → a ≡ d → b ≡ e → c ≡ f → counts_with a b c ≡ counts_with d e f
same-counts a b c d e f p q r = rw (p, q, r) refl

pub none-counted : (z : Terms) (xs : List Arrival) (ys : List Gone) (cut : ℕ) (over : List Event) (g : Growth)
    → IsAfter z xs ys cut over g → g.judging.is_unsure ≡ true
    → counts_with 0 0 0 ≡ counts_by (length ys) cut (judged_by z xs ys over)
none-counted z xs ys cut over g f un = ap (λ (b : Bool). if b then counts_with 0 0 0
    else counts_with (length ys - (judged_by z xs ys over).frames) (cut + least_waiting (judged_by z xs ys over).states)
    (judged_by z xs ys over).uncertain) (sym un ∙ f.unsure)

module _ (z : Terms) (xs : List Arrival) (ys : List Gone) (cut : ℕ) (over : List Event) (g : Growth) (least : ℕ)
    (leasts : (fs : List Gone) → least ≡ least_waiting (map (state_of fs) g.judging.held.items)) (sound : IsSound g)
    (f : IsAfter z xs ys cut over g) where
  -- what waits, and what is uncertain
  abbrev AreTheSame : Type 0
  AreTheSame = (least ≡ least_waiting (judged_by z xs ys over).states)
      × (g.judging.uncertain ≡ (judged_by z xs ys over).uncertain)

  none-waits : (l : List Gone) → least_waiting (judged_by z xs l []).states ≡ 0
  unfolding judged_after
  none-waits l = least-none (first_states z (first_levels (link z) z.by z.by.start) l)
      (first-none z (first_levels (link z) z.by z.by.start) l)

  none-uncertain : (l : List Gone) → (judged_by z xs l []).uncertain ≡ 0
  unfolding judged_after
  none-uncertain l = refl

  at-first : (h : IsHeld z xs ys cut over g) → g.is_started ≡ false → AreTheSame
  at-first h e = by over (sym h.kept.started ∙ e) h.kept.marks h.kept.certain
    where
      by : (l : List Event) → is_some l ≡ false → length (arrivals_came l) ≡ length h.gone + length
          g.judging.marks.items
          → (l ≡ [] → g.judging.uncertain ≡ 0)
          → (least ≡ least_waiting (judged_by z xs ys l).states)
          × (g.judging.uncertain ≡ (judged_by z xs ys l).uncertain)
      by (v ∷ l) s m k = absurd (cc)
      by [] s m k = (
        leasts []
            ∙ least-none (map (state_of []) g.judging.held.items) (held-none [] g.judging.held.items
            (every-on (λ v. IsWithin g.bounds.rates (length g.frames.items) (length g.judging.marks.items) v)
            (λ v. v.waiting ≤ 0)
            (λ v w. (let n = w.waiting in omega (arith, n, m))) g.judging.held.items
            (recursion_from_All (λ v. IsWithin g.bounds.rates (length g.frames.items) (length g.judging.marks.items) v)
            g.judging.held.items sound.within)))
            ∙ sym (none-waits ys),
        k refl ∙ sym (none-uncertain ys),
      )

  later : (h : IsHeld z xs ys cut over g) → g.is_started ≡ true → AreTheSame
  later h e =
      let k = h.continues e in (
        leasts (map gone_of g.frames.items)
            ∙ ap (λ (l : List State). least_waiting l) (k.stands.states ∙ ap (λ (j : Judged). j.states) k.same),
        k.stands.uncertain ∙ (let zero = ap (λ (j : Judged). j.uncertain) k.same in omega (arith, zero)),
      )

  pub all-counted : g.judging.is_unsure ≡ false
      → counts_with (g.left - g.found) (g.cut + least) g.judging.uncertain
      ≡ counts_by (length ys) cut (judged_by z xs ys over)
  all-counted sure =
      let h = f.sure sure in
      let same = by g.is_started refl h in
      let waits = same.0 in
      let off = h.kept.cut_off in
      let left = h.kept.frames in
      let found = h.kept.found in
      let few = sound.left in
      same-counts (g.left - g.found) (g.cut + least) g.judging.uncertain (length ys - (judged_by z xs ys over).frames)
      (cut + least_waiting (judged_by z xs ys over).states) (judged_by z xs ys over).uncertain
      (omega (arith, left, found, few)) (omega (arith, waits, off)) same.1
      ∙ sym (if-false (judged_by z xs ys over).is_unsure (counts_with 0 0 0)
      (counts_with (length ys - (judged_by z xs ys over).frames) (cut + least_waiting (judged_by z xs ys over).states)
      (judged_by z xs ys over).uncertain) (sym f.unsure ∙ sure))
    where
      by : (b : Bool) → g.is_started ≡ b → IsHeld z xs ys cut over g → AreTheSame
      by true e h = later h e
      by false e h = at-first h e
