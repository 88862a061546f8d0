-- Lists that are set at one place, searched, or lent.
use Rattle.std.proofs.Common.{◌≡◌, ◌≢◌, ℕ, zero, suc, ◌<◌, Bool, true, false, List, [], ◌∷◌}
use Rattle.std.proofs.Common.{◌++◌, length, take, drop, set, get_or, refl, sym, ap, subst, arith}
use Rattle.std.proofs.Common.{◌∙◌, inl, inr}
use Rattle.std.specs.Prelude.{All, Some, None, slice_get, find, if◌then◌else◌, ◌⊎◌}
use Rattle.std.proofs.lemmas.Bool.{cases_eq}
use Rattle.std.proofs.lemmas.List.{get_or-set_same, get_or-set_other, length-set, take-append-le}
use Rattle.std.proofs.Math.Seq.{take-length}
use Rattle.std.proofs.lemmas.Option.{slice_get_cases}
use Rattle.afdx_frame.proofs.ListLemmas.{slice_get-set_here, slice_get-set_there}

pub bool_cases : (b : Bool) → (b ≡ true) ⊎ (b ≡ false)
bool_cases true = inl refl
bool_cases false = inr refl

module _ {X : Type 0} where
  -- what stands in it is the new one, or an old one from elsewhere
  pub set-cases : (xs : List X) (i : ℕ) (x : X) (j : ℕ) (y : X) → i < length xs → slice_get (set xs i x) j ≡ Some y
      → ((j ≡ i) × (y ≡ x)) ⊎ ((j ≢ i) × (slice_get xs j ≡ Some y))
  set-cases xs i x j y within at = elim (cases_eq j i) [
    | inl same ↦
        (let here : slice_get (set xs i x) i ≡ Some x = slice_get-set_here xs i x within in
        let there : slice_get (set xs i x) i ≡ Some y = subst (λ k. slice_get (set xs i x) k ≡ Some y) same at in
        let is : y ≡ x = cc in inl (same, is))
    | inr other ↦ inr (other, sym (slice_get-set_there xs i j x other) ∙ at)
  ]

  -- a vector whose items were lent as a slice of the same length
  pub items-are : (len : ℕ) (xs ys : List X) → length xs ≡ len → take len (xs ++ drop (length xs) ys) ≡ xs
  items-are len xs ys count = take-append-le len xs (drop (length xs) ys) (omega (arith, count))
      ∙ ap (λ n. take n xs) (sym count) ∙ take-length xs

  -- what holds of each element still does, if it holds of the new one
  pub all-set : (P : X → Type 0) (xs : List X) (i : ℕ) (x : X) → i < length xs → All P xs → P x → All P (set xs i x)
  all-set P xs i x within all new = λ k d below. at k d (subst (λ n. k < n) (length-set xs i x) below) (cases_eq k i)
    where
      at : (k : ℕ) (d : X) → k < length xs → (k ≡ i) ⊎ (k ≢ i) → P (get_or (set xs i x) k d)
      at k d below (inl same) = rw (same, get_or-set_same xs i x d within) new
      at k d below (inr other) = rw (get_or-set_other xs i k x d other) (all k d below)

  -- what holds of all elements holds of one
  pub all-at : (P : X → Type 0) (xs : List X) (i : ℕ) (x : X) → All P xs → slice_get xs i ≡ Some x → P x
  all-at P xs i x all is =
      elim (slice_get_cases xs i).1 [
        | inl found ↦ (let same : found.0 ≡ x = cc in subst P (found.3 ∙ same) (all i found.0 found.1))
        | inr past ↦ absurd cc
      ]

  -- no element passes
  pub find-none : (p : X → Bool) (xs : List X)
      → ((j : ℕ) (y : X) → slice_get xs j ≡ Some y → p y ≡ false) → find p xs ≡ None
  find-none p [] none = refl
  find-none p (x ∷ xs) none = rw (none 0 x refl) (find-none p xs (λ j y is. none (suc j) y is))

  -- only one element can pass
  pub find-one : (p : X → Bool) (xs : List X) (i : ℕ) (x : X) → slice_get xs i ≡ Some x
      → ((j : ℕ) (y : X) → slice_get xs j ≡ Some y → p y ≡ true → j ≡ i) →
      find p xs ≡ (if p x then Some x else None)
  find-one p [] i x is only = absurd cc
  find-one p (y ∷ ys) zero x is only = at (bool_cases (p x))
    where
      same : y ≡ x
      same = cc

      none : (j : ℕ) (z : X) → slice_get ys j ≡ Some z → p z ≡ false
      none j z at_j = elim (bool_cases (p z))
          [ inl passes ↦ absurd (omega (arith, only (suc j) z at_j passes)) | inr fails ↦ fails ]

      at : (p x ≡ true) ⊎ (p x ≡ false) → find p (y ∷ ys) ≡ (if p x then Some x else None)
      at (inl passes) = rw (same, passes) refl
      at (inr fails) = rw (same, fails) (find-none p ys none)
  find-one p (y ∷ ys) (suc i) x is only =
      at (bool_cases (p y)) (find-one p ys i x is
      (λ j z at_j passes. omega (arith, only (suc j) z at_j passes)))
    where
      at : (p y ≡ true) ⊎ (p y ≡ false) → find p ys ≡ (if p x then Some x else None)
          → find p (y ∷ ys) ≡ (if p x then Some x else None)
      at (inl passes) rest = absurd (omega (arith, only 0 y refl passes))
      at (inr fails) rest = rw fails rest

  -- what is found stands in the list and passes
  pub find-found : (p : X → Bool) (xs : List X) (x : X) → find p xs ≡ Some x
      → (j : ℕ) × (slice_get xs j ≡ Some x) × (p x ≡ true)
  find-found p [] x is = absurd cc
  find-found p (y ∷ ys) x is = at (bool_cases (p y)) (λ rest. find-found p ys x rest)
    where
      at : (p y ≡ true) ⊎ (p y ≡ false)
          → (find p ys ≡ Some x → (j : ℕ) × (slice_get ys j ≡ Some x) × (p x ≡ true))
          → (j : ℕ) × (slice_get (y ∷ ys) j ≡ Some x) × (p x ≡ true)
      at (inl passes) later = let here : Some y ≡ Some x = rw passes at is in let same : y ≡ x =
          cc in (0, here, sym (ap p same) ∙ passes)
      at (inr fails) later = let w = later (rw fails at is) in (suc w.0, w.1, w.2)
