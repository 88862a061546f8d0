-- The first of the tests of a list that is true.
use Rattle.std.proofs.Common.{◌≡◌, Bool, true, false, List, [], ◌∷◌, ◌++◌, refl, ◌∙◌, sym, ap}
use Rattle.std.specs.Prelude.{Option, Some, None, if◌then◌else◌}
use Rattle.std.specs.List.{AllByRecursion, list_all}
use Rattle.std.specs.Option.{option_or}
use Rattle.std.proofs.lemmas.Bool.{and_parts}
use Rattle.std.proofs.lemmas.Option.{same_Some}
use Rattle.afdx_police.specs.Shape.{first_of}

-- of two lists, one behind the other
pub first_of-append : {R : Type 0} (xs ys : List (Bool × R))
    → first_of (xs ++ ys) ≡ option_or (first_of xs) (first_of ys)
first_of-append [] ys = refl
first_of-append (x ∷ xs) ys = by x.0 (first_of-append xs ys)
  where
    by : (b : Bool) → first_of (xs ++ ys) ≡ option_or (first_of xs) (first_of ys)
        → (if b then Some x.1 else first_of (xs ++ ys))
        ≡ option_or (if b then Some x.1 else first_of xs) (first_of ys)
    by true rest = refl
    by false rest = rest

option_or-some : {R : Type 0} (o : Option R) (r : R) → (s : R) × (option_or o (Some r) ≡ Some s)
option_or-some None r = (r, refl)
option_or-some (Some s) r = (s, refl)

-- where a test is true there is a first one
pub first_of-some : {R : Type 0} (xs : List (Bool × R)) (r : R) (more : List (Bool × R))
    → (s : R) × (first_of (xs ++ (true, r) ∷ more) ≡ Some s)
first_of-some xs r more =
    let some = option_or-some (first_of xs) r in
    (some.0, first_of-append xs ((true, r) ∷ more) ∙ some.1)

-- what passes for the answer of each test passes for that of the first one
pub first_of-each : {R : Type 0} (p : R → Bool) (xs : List (Bool × R)) (r : R)
    → list_all (λ x. p x.1) xs ≡ true → first_of xs ≡ Some r → p r ≡ true
first_of-each p [] r each is = absurd cc
first_of-each p (x ∷ xs) r each is =
    let both : (p x.1 ≡ true) × (list_all (λ y. p y.1) xs ≡ true) =
    and_parts (p x.1) (list_all (λ y. p y.1) xs) each in
    by x.0 both.0 (first_of-each p xs r both.1) is
  where
    by : (b : Bool) → p x.1 ≡ true → (first_of xs ≡ Some r → p r ≡ true)
        → (if b then Some x.1 else first_of xs) ≡ Some r → p r ≡ true
    by true here later is = ap p (sym (same_Some x.1 r is)) ∙ here
    by false here later is = later is

-- there is none where all are false, and only there
pub none-false : {R : Type 0} (xs : List (Bool × R)) → first_of xs ≡ None
    → AllByRecursion (λ x. x.0 ≡ false) xs
none-false [] h = tt
none-false (x ∷ xs) h = by x.0 h (none-false xs)
  where
    by : (b : Bool) → (if b then Some x.1 else first_of xs) ≡ None
        → (first_of xs ≡ None → AllByRecursion (λ x. x.0 ≡ false) xs)
        → (b ≡ false) × AllByRecursion (λ x. x.0 ≡ false) xs
    by true e rest = absurd (cc e)
    by false e rest = (refl, rest e)

pub false-none : {R : Type 0} (xs : List (Bool × R)) → AllByRecursion (λ x. x.0 ≡ false) xs
    → first_of xs ≡ None
false-none [] h = refl
false-none (x ∷ xs) h = by x.0 h.0 (false-none xs h.1)
  where
    by : (b : Bool) → b ≡ false → first_of xs ≡ None → (if b then Some x.1 else first_of xs) ≡ None
    by true e rest = absurd (cc e)
    by false e rest = rest
