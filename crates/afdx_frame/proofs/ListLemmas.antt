-- Lists of any kind: read at a place, set at one, longer by one, filtered, searched.
use Rattle.std.proofs.Common.{◌≡◌, ◌≢◌, ℕ, zero, suc, ◌+◌, ◌<◌, ◌≤◌, Bool, true, false, ◌||◌}
use Rattle.std.proofs.Common.{List, [], ◌∷◌, ◌++◌, length, take, set, filter, Some}
use Rattle.std.proofs.Common.{◌⊎◌, inl, inr, if◌then◌else◌, nat_eq, refl, sym, ap, ◌∙◌, subst, arith}
use Rattle.std.specs.List.{slice_get, list_any, AllByRecursion}
use Rattle.std.proofs.lemmas.Bool.{eqb-true, or_cases}
use Rattle.std.proofs.lemmas.List.{take_more, get_or-set_same, get_or-set_other, length-set}
use Rattle.std.proofs.lemmas.Option.{get_or_from_slice_get, slice_get_within, slice_get_cases}
use Rattle.std.proofs.lemmas.Option.{slice_get-get_or, slice_get_past, same_Some}

module _ {X : Type 0} where
  -- a place within has an element, and one alone
  pub slice_get-within : (xs : List X) (i : ℕ) → i < length xs → (x : X) × (slice_get xs i ≡ Some x)
  slice_get-within xs i within = elim (slice_get_cases xs i).1
      [ inl found ↦ (found.0, found.2) | inr past ↦ absurd (omega (arith, within, past.0)) ]

  pub slice_get-one : (xs : List X) (i : ℕ) (x y : X) → slice_get xs i ≡ Some x → slice_get xs i ≡ Some y → x ≡ y
  slice_get-one xs i x y first second = same_Some x y (sym first ∙ second)

  -- a list that was set at one place, read there and elsewhere
  pub slice_get-set_here : (xs : List X) (i : ℕ) (x : X) → i < length xs → slice_get (set xs i x) i ≡ Some x
  slice_get-set_here xs i x within =
      slice_get-get_or (set xs i x) i x (subst (λ n. i < n) (sym (length-set xs i x)) within)
      ∙ ap Some (get_or-set_same xs i x x within)

  pub slice_get-set_there : (xs : List X) (i j : ℕ) (x : X) → j ≢ i → slice_get (set xs i x) j ≡ slice_get xs j
  slice_get-set_there xs i j x other =
      elim (slice_get_cases xs j).1 [
        | inl found ↦
            slice_get-get_or (set xs i x) j found.0 (subst (λ n. j < n) (sym (length-set xs i x)) found.1)
            ∙ ap Some (get_or-set_other xs i j x found.0 other ∙ found.3) ∙ sym found.2
        | inr past ↦ slice_get_past (set xs i x) j (subst (λ n. n ≤ j) (sym (length-set xs i x)) past.0) ∙ sym past.1
      ]

  -- a list that was pushed to, read before its end, there, and anywhere
  pub slice_get-push_before : (xs : List X) (y : X) (i : ℕ) (x : X) → slice_get xs i ≡ Some x
      → slice_get (xs ++ y ∷ []) i ≡ Some x
  slice_get-push_before [] y i x at = absurd cc
  slice_get-push_before (z ∷ zs) y zero x at = at
  slice_get-push_before (z ∷ zs) y (suc i) x at = slice_get-push_before zs y i x at

  pub slice_get-push_last : (xs : List X) (y : X) → slice_get (xs ++ y ∷ []) (length xs) ≡ Some y
  slice_get-push_last [] y = refl
  slice_get-push_last (z ∷ zs) y = slice_get-push_last zs y

  pub slice_get-push_cases : (xs : List X) (y : X) (i : ℕ) (x : X) → slice_get (xs ++ y ∷ []) i ≡ Some x
      → (slice_get xs i ≡ Some x) ⊎ ((i ≡ length xs) × (x ≡ y))
  slice_get-push_cases [] y zero x at = inr (refl, cc)
  slice_get-push_cases [] y (suc i) x at = absurd cc
  slice_get-push_cases (z ∷ zs) y zero x at = inl at
  slice_get-push_cases (z ∷ zs) y (suc i) x at =
      elim (slice_get-push_cases zs y i x at)
      [ inl old ↦ inl old | inr last ↦ inr (omega (arith, last.0), last.1) ]

  -- one element more, as at a step of a loop
  pub take-one_more : (xs : List X) (i : ℕ) (x : X) → slice_get xs i ≡ Some x
      → take (i + 1) xs ≡ take i xs ++ x ∷ []
  take-one_more xs i x here = take_more xs i x (slice_get_within xs i x here)
      ∙ ap (λ y. take i xs ++ y ∷ []) (get_or_from_slice_get xs i x x here)

  -- one before a place that passes a test
  pub list_any-take : (p : X → Bool) (xs : List X) (i : ℕ) → list_any p (take i xs) ≡ true
      → (j : ℕ) × (x : X) × (j < i) × (slice_get xs j ≡ Some x) × (p x ≡ true)
  list_any-take p [] zero h = absurd cc
  list_any-take p [] (suc i) h = absurd cc
  list_any-take p (x ∷ xs) zero h = absurd cc
  list_any-take p (x ∷ xs) (suc i) h =
      elim (or_cases (p x) (list_any p (take i xs)) h) [
        | inl here ↦ (0, x, omega arith, refl, here)
        | inr later ↦ (let found = list_any-take p xs i later in
            (suc found.0, found.1, omega (arith, found.2), found.3, found.4))
      ]

  -- an element of a filtered list stands in the list
  pub slice_get-filter : (p : X → Bool) (xs : List X) (i : ℕ) (x : X) → slice_get (filter p xs) i ≡ Some x
      → (j : ℕ) × (slice_get xs j ≡ Some x)
  slice_get-filter p [] i x at = absurd cc
  slice_get-filter p (y ∷ ys) i x at = by (p y) i at (λ k later. slice_get-filter p ys k x later)
    where
      by : (b : Bool) (k : ℕ) → slice_get (if b then y ∷ filter p ys else filter p ys) k ≡ Some x
          → ((n : ℕ) → slice_get (filter p ys) n ≡ Some x → (j : ℕ) × (slice_get ys j ≡ Some x))
          → (j : ℕ) × (slice_get (y ∷ ys) j ≡ Some x)
      by true zero here rest = (0, here)
      by true (suc k) later rest = let found = rest k later in (suc found.0, found.1)
      by false k later rest = let found = rest k later in (suc found.0, found.1)

  -- what holds of each by recursion holds of the one at a place, and still does with one more
  pub AllByRecursion-slice_get : (P : X → Type 0) (xs : List X) (i : ℕ) (x : X) → AllByRecursion P xs
      → slice_get xs i ≡ Some x → P x
  AllByRecursion-slice_get P [] i x all at = absurd cc
  AllByRecursion-slice_get P (y ∷ ys) zero x all at = subst P (same_Some y x at) all.0
  AllByRecursion-slice_get P (y ∷ ys) (suc i) x all at = AllByRecursion-slice_get P ys i x all.1 at

  pub AllByRecursion-push : (P : X → Type 0) (xs : List X) (x : X) → AllByRecursion P xs → P x
      → AllByRecursion P (xs ++ x ∷ [])
  AllByRecursion-push P [] x all one = (one, tt)
  AllByRecursion-push P (y ∷ ys) x all one = (all.0, AllByRecursion-push P ys x all.1 one)

-- what holds of each of some numbers holds of one of them
pub AllByRecursion-one_of : (P : ℕ → Type 0) (n : ℕ) (ns : List ℕ) → AllByRecursion P ns
    → list_any (λ m. nat_eq m n) ns ≡ true → P n
AllByRecursion-one_of P n [] all is = absurd cc
AllByRecursion-one_of P n (m ∷ ns) all is = by (nat_eq m n) refl (AllByRecursion-one_of P n ns all.1) is
  where
    by : (b : Bool) → nat_eq m n ≡ b → (list_any (λ x. nat_eq x n) ns ≡ true → P n)
        → b || list_any (λ x. nat_eq x n) ns ≡ true → P n
    by true same later e = subst P (eqb-true m n same) all.0
    by false other later e = later e
