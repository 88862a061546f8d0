-- The rows of the tables from a place on.
use Rattle.std.proofs.Common.{◌≡◌, ℕ, ◌+◌, zero, suc}
use Rattle.std.proofs.Common.{List, [], ◌∷◌, drop, Some}
use Rattle.std.proofs.Common.{slice_get, ap, ◌∙◌, arith}

drop_at : {X : Type 0} (xs : List X) (i : ℕ) (x : X) → slice_get xs i ≡ Some x → drop i xs ≡ x ∷ drop (suc i) xs
drop_at [] i x h = absurd (cc h)
drop_at (y ∷ ys) zero x h = ap (λ z. z ∷ ys) (same y x h)
  where
    same : {X : Type 0} (y x : X) → Some y ≡ Some x → y ≡ x
    same y x h = cc
drop_at (y ∷ ys) (suc i) x h = drop_at ys i x h

pub drop_next : {X : Type 0} (xs : List X) (i : ℕ) (x : X) → slice_get xs i ≡ Some x → drop i xs ≡ x ∷ drop (i + 1) xs
drop_next xs i x at = let e : suc i ≡ i + 1 = omega arith in drop_at xs i x at ∙ ap (λ n. x ∷ drop n xs) e
