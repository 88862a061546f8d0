-- What holds of the fault of each of some lines.
use Rattle.std.proofs.Common.{◌≡◌, ℕ, zero, suc, ◌+◌, ◌<◌, ◌≤◌, Bool, true, false, not, List, [], ◌∷◌, ◌++◌}
use Rattle.std.proofs.Common.{map, filter, cond, Some, if◌then◌else◌, subst, arith}
use Rattle.std.specs.List.{AllByRecursion}
use Rattle.std.proofs.lemmas.Option.{same_Some}
use Rattle.afdx_frame.specs.Lines.{Line, each_from, false_lines, first_false}

module _ {F : Type 0} (P : F → Type 0) where
  abbrev pub OfEach : List (Line F) → Type 0
  OfEach ls = AllByRecursion (λ l. P l.fault) ls

  pub of_append : (xs ys : List (Line F)) → OfEach xs → OfEach ys → OfEach (xs ++ ys)
  of_append [] ys h g = g
  of_append (x ∷ xs) ys h g = (h.0, of_append xs ys h.1 g)

  pub of_map : {X : Type 0} (f : X → Line F) → ((x : X) → P (f x).fault) → (xs : List X) → OfEach (map f xs)
  of_map f h [] = tt
  of_map f h (x ∷ xs) = (h x, of_map f h xs)

  -- of those that pass a test
  pub of_passing : {X : Type 0} (f : X → Line F) (p : X → Bool) (xs : List X) → AllByRecursion (λ x. P (f x).fault) xs
      → OfEach (map f (filter p xs))
  of_passing f p [] h = tt
  of_passing f p (x ∷ xs) h = by (p x) (of_passing f p xs h.1)
    where
      by : (b : Bool) → OfEach (map f (filter p xs)) → OfEach (map f (cond b (x ∷ filter p xs) (filter p xs)))
      by true g = (h.0, g)
      by false g = g

  pub of_places : (f : ℕ → List (Line F)) (from count : ℕ)
      → ((k : ℕ) → from ≤ k → k < from + count → OfEach (f k)) → OfEach (each_from f from count)
  unfolding each_from
  of_places f from zero h = tt
  of_places f from (suc count) h =
      of_append (f from) (each_from f (from + 1) count) (h from (omega arith) (omega arith))
      (of_places f (from + 1) count (λ k low high. h k (omega (arith, low)) (omega (arith, high))))

  pub of_false : (ls : List (Line F)) → OfEach ls → AllByRecursion P (false_lines ls)
  unfolding false_lines
  of_false [] h = tt
  of_false (l ∷ ls) h = by l.holds (of_false ls h.1)
    where
      by : (b : Bool) → AllByRecursion P (false_lines ls) →
          AllByRecursion P (map (λ k. k.fault) (cond (not b) (l ∷ filter (λ k. not k.holds) ls)
          (filter (λ k. not k.holds) ls)))
      by true g = g
      by false g = (h.0, g)

  pub of_first : (ls : List (Line F)) → OfEach ls → (fault : F) → first_false ls ≡ Some fault → P fault
  unfolding first_false
  of_first [] h fault e = absurd (cc e)
  of_first (l ∷ ls) h fault e = by l.holds (of_first ls h.1 fault) e
    where
      by : (b : Bool) → (first_false ls ≡ Some fault → P fault)
          → (if b then first_false ls else Some l.fault) ≡ Some fault → P fault
      by true later e = later e
      by false later e = subst P (same_Some l.fault fault e) h.0
