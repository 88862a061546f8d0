-- What holds of all rows holds of the first of them, and of the others.
use Rattle.std.proofs.Common.{ℕ, zero, suc, List, [], ◌∷◌, take, drop}
use Rattle.std.specs.List.{AllByRecursion}

pub front : {R : Type 0} (P : R → Type 0) (n : ℕ) (rows : List R) → AllByRecursion P rows
    → AllByRecursion P (take n rows)
front P zero rows are = tt
front P (suc n) [] are = tt
front P (suc n) (r ∷ rows) are = (are.0, front P n rows are.1)

pub back : {R : Type 0} (P : R → Type 0) (n : ℕ) (rows : List R) → AllByRecursion P rows
    → AllByRecursion P (drop n rows)
back P zero rows are = are
back P (suc n) [] are = tt
back P (suc n) (r ∷ rows) are = back P n rows are.1
