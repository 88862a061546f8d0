-- What is left of a list by a test.
use Rattle.std.proofs.Common.{◌≡◌, ℕ, ◌≤◌, Bool, true, false, ◌&&◌, List, [], ◌∷◌, map, refl, ap, inl, inr}
use Rattle.std.specs.Prelude.{if◌then◌else◌, filter, ◌⊎◌}
use Rattle.std.specs.List.{AllByRecursion}
use Rattle.afdx_conform.proofs.EveryLemmas.{every-map}

-- tests that agree leave the same
pub filter-same : {X : Type 0} (p q : X → Bool) (xs : List X) → AllByRecursion (λ x. p x ≡ q x) xs
    → filter p xs ≡ filter q xs
filter-same p q [] all = refl
filter-same {X} p q (x ∷ xs) all = by (p x) (q x) all.0 (filter-same p q xs all.1)
  where
    by : (b c : Bool) → b ≡ c → filter p xs ≡ filter q xs
        → (if b then x ∷ filter p xs else filter p xs) ≡ (if c then x ∷ filter q xs else filter q xs)
    by true true e rest = ap (λ (l : List X). x ∷ l) rest
    by true false e rest = absurd (cc)
    by false true e rest = absurd (cc)
    by false false e rest = rest

pub filter-twice : {X : Type 0} (p q : X → Bool) (xs : List X) → filter p (filter q xs) ≡ filter (λ x. q x && p x) xs
filter-twice p q [] = refl
filter-twice {X} p q (x ∷ xs) = by (q x) (p x) refl (filter-twice p q xs)
  where
    by : (b c : Bool) → p x ≡ c → filter p (filter q xs) ≡ filter (λ x. q x && p x) xs
        → filter p (if b then x ∷ filter q xs else filter q xs)
        ≡ (if b && c then x ∷ filter (λ x. q x && p x) xs else filter (λ x. q x && p x) xs)
    by true true e rest = rw e (ap (λ (l : List X). x ∷ l) rest)
    by true false e rest = rw e rest
    by false c e rest = rest

pub filter-none : {X : Type 0} (p : X → Bool) (xs : List X) → AllByRecursion (λ x. p x ≡ false) xs → filter p xs ≡ []
filter-none p [] all = refl
filter-none p (x ∷ xs) all = rw all.0 (filter-none p xs all.1)

pub filter-whole : {X : Type 0} (p : X → Bool) (xs : List X) → AllByRecursion (λ x. p x ≡ true) xs → filter p xs ≡ xs
filter-whole p [] all = refl
filter-whole {X} p (x ∷ xs) all = rw all.0 (ap (λ (l : List X). x ∷ l) (filter-whole p xs all.1))

pub filter-keeps : {X : Type 0} (P : X → Type 0) (p : X → Bool) (xs : List X) → AllByRecursion P xs
    → AllByRecursion P (filter p xs)
filter-keeps P p [] all = tt
filter-keeps P p (x ∷ xs) all = by (p x) (filter-keeps P p xs all.1)
  where
    by : (b : Bool) → AllByRecursion P (filter p xs) → AllByRecursion P (if b then x ∷ filter p xs else filter p xs)
    by true rest = (all.0, rest)
    by false rest = rest

pub filter-map : {X Y : Type 0} (p : Y → Bool) (f : X → Y) (xs : List X)
    → filter p (map f xs) ≡ map f (filter (λ x. p (f x)) xs)
filter-map p f [] = refl
filter-map {X} {Y} p f (x ∷ xs) = by (p (f x)) (filter-map p f xs)
  where
    by : (b : Bool) → filter p (map f xs) ≡ map f (filter (λ x. p (f x)) xs)
        → (if b then f x ∷ filter p (map f xs) else filter p (map f xs))
        ≡ map f (if b then x ∷ filter (λ x. p (f x)) xs else filter (λ x. p (f x)) xs)
    by true rest = ap (λ (l : List Y). f x ∷ l) rest
    by false rest = rest

pub and-false : (b : Bool) → b && false ≡ false
and-false true = refl
and-false false = refl

pub bool-cases : (b : Bool) → (b ≡ true) ⊎ (b ≡ false)
bool-cases true = inl refl
bool-cases false = inr refl

pub filter-passes : {X : Type 0} (p : X → Bool) (xs : List X) → AllByRecursion (λ x. p x ≡ true) (filter p xs)
filter-passes p [] = tt
filter-passes p (x ∷ xs) = by (p x) refl (filter-passes p xs)
  where
    by : (b : Bool) → p x ≡ b → AllByRecursion (λ x. p x ≡ true) (filter p xs)
        → AllByRecursion (λ x. p x ≡ true) (if b then x ∷ filter p xs else filter p xs)
    by true e rest = (e, rest)
    by false e rest = rest

-- both hold of each
pub both-hold : {X : Type 0} (P Q : X → Type 0) (xs : List X) → AllByRecursion P xs → AllByRecursion Q xs
    → AllByRecursion (λ x. P x × Q x) xs
both-hold P Q [] p q = tt
both-hold P Q (x ∷ xs) p q = ((p.0, q.0), both-hold P Q xs p.1 q.1)

-- ---- times that don't grow

unfoldable pub Descend : {X : Type 0} → (X → ℕ) → List X → Type 0
Descend time [] = Unit {0}
Descend time (x ∷ before) = AllByRecursion (λ w. time w ≤ time x) before × Descend time before

pub descend-filter : {X : Type 0} (time : X → ℕ) (p : X → Bool) (xs : List X) → Descend time xs
    → Descend time (filter p xs)
unfolding Descend
descend-filter time p [] h = tt
descend-filter time p (x ∷ xs) h =
    by (p x) (filter-keeps (λ w. time w ≤ time x) p xs h.0) (descend-filter time p xs h.1)
  where
    by : (b : Bool) → AllByRecursion (λ w. time w ≤ time x) (filter p xs) → Descend time (filter p xs)
        → Descend time (if b then x ∷ filter p xs else filter p xs)
    by true below rest = (below, rest)
    by false below rest = rest

pub descend-map : {X Y : Type 0} (f : X → Y) (time : Y → ℕ) (xs : List X) → Descend (λ x. time (f x)) xs
    → Descend time (map f xs)
unfolding Descend
descend-map f time [] h = tt
descend-map f time (x ∷ xs) h = (every-map (λ w. time w ≤ time (f x)) f xs h.0, descend-map f time xs h.1)
