-- Lists that go by a number: the newest first, or the oldest.
use Rattle.std.proofs.Common.{◌≡◌, ℕ, ◌≤◌, List, [], ◌∷◌, ◌++◌, map, reverse, sym, ap, ◌∙◌, subst}
use Rattle.std.proofs.lemmas.List.{append_assoc, reverse-append}
use Rattle.std.specs.List.{AllByRecursion}

-- one of the oldest first goes behind the others
pub turned : {X : Type 0} (x : X) (xs ys : List X) → reverse (x ∷ xs) ++ ys ≡ reverse xs ++ (x ∷ ys)
turned {X} x xs ys =
    ap (λ (l : List X). l ++ ys) (reverse-append (x ∷ []) xs) ∙ append_assoc (reverse xs) (x ∷ []) ys

module _ {X : Type 0} (r : X → ℕ) where
  -- the number of the newest
  abbrev pub last : List X → ℕ
  last [] = 0
  last (x ∷ past) = r x

  -- no number is less than that of the one before it
  abbrev pub Down : List X → Type 0
  Down [] = Unit {0}
  Down (x ∷ past) = (last past ≤ r x) × Down past

  -- the same, where the oldest is the first, from a number on
  abbrev pub Up : ℕ → List X → Type 0
  Up n [] = Unit {0}
  Up n (x ∷ later) = (n ≤ r x) × Up (r x) later

pub down-behind : {X : Type 0} (r : X → ℕ) (xs ys : List X) → Down r (xs ++ ys) → Down r ys
down-behind r [] ys h = h
down-behind r (x ∷ xs) ys h = down-behind r xs ys h.1

pub up-of-down : {X : Type 0} (r : X → ℕ) (xs ys : List X) → Down r (reverse xs ++ ys) → Up r (last r ys) xs
up-of-down r [] ys h = tt
up-of-down {X} r (x ∷ xs) ys h =
    let k = subst (λ (l : List X). Down r l) (turned x xs ys) h in
    ((down-behind r (reverse xs) (x ∷ ys) k).0, up-of-down r xs (x ∷ ys) k)

pub down-of-up : {X : Type 0} (r : X → ℕ) (xs ys : List X) → Down r ys → Up r (last r ys) xs → Down r (reverse xs ++ ys)
down-of-up r [] ys d u = d
down-of-up {X} r (x ∷ xs) ys d u =
    subst (λ (l : List X). Down r l) (sym (turned x xs ys)) (down-of-up r xs (x ∷ ys) (u.0, d) u.1)

-- by another number, where that goes as the first does
pub up-map : {X Y : Type 0} (r : X → ℕ) (q : Y → ℕ) (f : X → Y) (S : X → Type 0)
    → ((x y : X) → S x → S y → r x ≤ r y → q (f x) ≤ q (f y))
    → (n m : ℕ) (xs : List X) → ((x : X) → S x → m ≤ r x → n ≤ q (f x))
    → AllByRecursion S xs → Up r m xs → Up q n (map f xs)
up-map r q f S step n m [] first all up = tt
up-map r q f S step n m (x ∷ xs) first all up = (
  first x all.0 up.0,
  up-map r q f S step (q (f x)) (r x) xs (λ y so le. step x y all.0 so le) all.1 up.1,
)

-- ---- of each of the first, and of each of the others

pub all-first : {X : Type 0} (P : X → Type 0) (xs ys : List X) → AllByRecursion P (xs ++ ys) → AllByRecursion P xs
all-first P [] ys h = tt
all-first P (x ∷ xs) ys h = (h.0, all-first P xs ys h.1)

-- in the other order
pub all-turned : {X : Type 0} (P : X → Type 0) (xs : List X) → AllByRecursion P (reverse xs) → AllByRecursion P xs
all-turned P [] h = tt
all-turned {X} P (x ∷ xs) h =
    let k = subst (λ (l : List X). AllByRecursion P l) (reverse-append (x ∷ []) xs) h in
    ((all-last P (reverse xs) (x ∷ []) k).0, all-turned P xs (all-first P (reverse xs) (x ∷ []) k))
  where
    all-last : {Y : Type 0} (Q : Y → Type 0) (ys zs : List Y) → AllByRecursion Q (ys ++ zs) → AllByRecursion Q zs
    all-last Q [] zs h = h
    all-last Q (y ∷ ys) zs h = all-last Q ys zs h.1
