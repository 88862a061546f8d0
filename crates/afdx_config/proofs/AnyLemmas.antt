-- A test of the first of a list.
use Rattle.std.proofs.Common.{◌≡◌, ℕ, zero, suc, ◌+◌, ◌<◌, Bool, true, false, ◌||◌, List, [], ◌∷◌}
use Rattle.std.proofs.Common.{Some, slice_get, take, refl, ap, ◌∙◌, arith}
use Rattle.std.specs.List.{list_any}
use Rattle.std.proofs.lemmas.List.Folds.{list_any-append}
use Rattle.std.proofs.lemmas.Map.Keys.{any_passes_from_place}
use Rattle.afdx_frame.proofs.ListLemmas.{take-one_more}

module _ {X : Type 0} where
  slice_get-take : (n i : ℕ) (xs : List X) → i < n → slice_get (take n xs) i ≡ slice_get xs i
  slice_get-take zero i xs h = absurd (omega (arith, h))
  slice_get-take (suc n) i [] h = refl
  slice_get-take (suc n) zero (x ∷ xs) h = refl
  slice_get-take (suc n) (suc i) (x ∷ xs) h = slice_get-take n i xs (omega (arith, h))

  module _ (p : X → Bool) (xs : List X) where
    -- one that passes is among the first
    pub any_first : (n i : ℕ) (x : X) → i < n → slice_get xs i ≡ Some x → p x ≡ true → list_any p (take n xs) ≡ true
    any_first n i x within at passes =
        any_passes_from_place p (take n xs) i x (slice_get-take n i xs within ∙ at) passes

    -- and one more that doesn't
    pub none_first : (i : ℕ) (x : X) → slice_get xs i ≡ Some x → p x ≡ false → list_any p (take i xs) ≡ false
        → list_any p (take (i + 1) xs) ≡ false
    none_first i x at fails none =
        ap (list_any p) (take-one_more xs i x at) ∙ list_any-append p (take i xs) (x ∷ [])
        ∙ ap (λ b. b || (p x || false)) none ∙ ap (λ b. b || false) fails
