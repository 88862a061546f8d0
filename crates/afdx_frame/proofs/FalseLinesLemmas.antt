-- The faults of the false lines of several, one after the other.
use Rattle.std.proofs.Common.{◌≡◌, ℕ, zero, suc, ◌+◌, Bool, true}
use Rattle.std.proofs.Common.{false, not, List, [], ◌∷◌, ◌++◌, map, filter, cond, Some, if◌then◌else◌}
use Rattle.std.proofs.Common.{None, slice_get, refl, sym, ap, ◌∙◌, append_assoc, arith}
use Rattle.std.proofs.lemmas.List.{append-nil, map-append}
use Rattle.std.proofs.lemmas.List.Elements.{filter-append}
use Rattle.afdx_frame.specs.Lines.{Line, false_lines, first_false, each_from}

pub false_lines-nil : {F : Type 0} → false_lines {F = F} [] ≡ []
unfolding false_lines
false_lines-nil = refl

pub false_lines-append : {F : Type 0} (xs ys : List (Line F))
    → false_lines (xs ++ ys) ≡ false_lines xs ++ false_lines ys
unfolding false_lines
false_lines-append xs ys =
    ap (map (λ l. l.fault)) (filter-append (λ l. not l.holds) xs ys)
    ∙ map-append (λ l. l.fault) (filter (λ l. not l.holds) xs) (filter (λ l. not l.holds) ys)

pub false_lines-holds : {F : Type 0} (l : Line F) (ls : List (Line F)) → l.holds ≡ true
    → false_lines (l ∷ ls) ≡ false_lines ls
unfolding false_lines
false_lines-holds l ls h =
    ap (λ b. map (λ k. k.fault) (cond (not b) (l ∷ filter (λ k. not k.holds) ls) (filter (λ k. not k.holds) ls))) h

pub false_lines-fails : {F : Type 0} (l : Line F) (ls : List (Line F)) → l.holds ≡ false
    → false_lines (l ∷ ls) ≡ l.fault ∷ false_lines ls
unfolding false_lines
false_lines-fails l ls h =
    ap (λ b. map (λ k. k.fault) (cond (not b) (l ∷ filter (λ k. not k.holds) ls) (filter (λ k. not k.holds) ls))) h

-- lines added after others
pub added : {F : Type 0} (old before after : List F) (xs ys : List (Line F)) → before ≡ old ++ false_lines xs →
    after ≡ before ++ false_lines ys → after ≡ old ++ false_lines (xs ++ ys)
added old before after xs ys e f =
    f ∙ ap (λ zs. zs ++ false_lines ys) e
    ∙ append_assoc old (false_lines xs) (false_lines ys)
    ∙ ap (λ zs. old ++ zs) (sym (false_lines-append xs ys))

pub none_added : {F : Type 0} (old : List F) → old ≡ old ++ false_lines []
none_added old = sym (ap (λ zs. old ++ zs) false_lines-nil ∙ append-nil old)

-- ---- places

module _ {F : Type 0} (f : ℕ → List (Line F)) where
  each_from-more : (from count : ℕ) → each_from f from (count + 1) ≡ each_from f from count ++ f (from + count)
  unfolding each_from
  each_from-more from zero = append-nil (f from) ∙ ap f (let e : from ≡ from + 0 = omega arith in e)
  each_from-more from (suc count) =
      (let e : suc count + 1 ≡ suc (count + 1) = omega arith in ap (each_from f from) e)
      ∙ ap (λ ls. f from ++ ls) (each_from-more (from + 1) count)
      ∙ sym (append_assoc (f from) (each_from f (from + 1) count) (f (from + 1 + count)))
      ∙ ap (λ k. (f from ++ each_from f (from + 1) count) ++ f k)
      (let e : from + 1 + count ≡ from + suc count = omega arith in e)

  pub each_from-none : (from : ℕ) (old : List F) → old ≡ old ++ false_lines (each_from f from 0)
  unfolding each_from
  each_from-none from old = none_added old

  pub each_from-added : (from count place : ℕ) (old before after : List F) → place ≡ from + count →
      before ≡ old ++ false_lines (each_from f from count) → after ≡ before ++ false_lines (f place) →
      after ≡ old ++ false_lines (each_from f from (count + 1))
  each_from-added from count place old before after at e g =
      added old before after (each_from f from count) (f place) e g
      ∙ ap (λ k. old ++ false_lines (each_from f from count ++ f k)) at
      ∙ ap (λ ls. old ++ false_lines ls) (sym (each_from-more from count))

-- ---- the first of all

pub first-of_all : {F : Type 0} (ls : List (Line F)) → first_false ls ≡ slice_get (false_lines ls) 0
unfolding first_false false_lines
first-of_all [] = refl
first-of_all (l ∷ ls) = by l.holds (first-of_all ls)
  where
    by : (b : Bool) → first_false ls ≡ slice_get (false_lines ls) 0 →
        (if b then first_false ls else Some l.fault)
        ≡ slice_get (map (λ k. k.fault) (cond (not b) (l ∷ filter (λ k. not k.holds) ls)
        (filter (λ k. not k.holds) ls))) 0
    by true h = h
    by false h = refl

pub empty-none : {F : Type 0} (faults : List F) → slice_get faults 0 ≡ None → faults ≡ []
empty-none [] h = refl
empty-none (f ∷ fs) h = absurd (cc h)
