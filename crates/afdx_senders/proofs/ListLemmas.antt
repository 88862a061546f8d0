-- Lists in another order, and what passes a test in them.
use Rattle.std.proofs.Common.{◌≡◌, ℕ, ◌<◌, zero, suc, Bool, true, false, List, [], ◌∷◌, ◌++◌, map, length, get_or, set, refl, sym, ap, ◌∙◌, subst, arith}
use Rattle.std.proofs.lemmas.List.{append_assoc}
use Rattle.std.proofs.lemmas.List.Sorted.{IsPermutation-append_comm, IsPermutation-append_left, IsPermutation-cons, IsPermutation-keeps, IsPermutation-middle}
use Rattle.std.proofs.lemmas.List.Sorted.{IsPermutation-refl, IsPermutation-trans}
use Rattle.std.specs.List.{AllByRecursion, swap}
use Rattle.std.specs.List.Sorted.{IsPermutation}
use Rattle.std.specs.Prelude.{filter, if◌then◌else◌}

-- ---- what passes a test of a list is the same in another order

module _ {X : Type 0} (p : X → Bool) where
  abbrev PassAlike : List X → List X → Type 0
  PassAlike xs ys = IsPermutation (filter p xs) (filter p ys)

  alike_trans : (xs ys zs : List X) → PassAlike xs ys → PassAlike ys zs → PassAlike xs zs
  alike_trans xs ys zs h k = IsPermutation-trans (filter p xs) (filter p ys) (filter p zs) h k

  one_alike : (x : X) (xs ys : List X) → PassAlike xs ys → PassAlike (x ∷ xs) (x ∷ ys)
  one_alike x xs ys h = by (p x)
    where
      by : (b : Bool) → IsPermutation (if b then x ∷ filter p xs else filter p xs)
          (if b then x ∷ filter p ys else filter p ys)
      by true = IsPermutation-cons x (filter p xs) (filter p ys) h
      by false = h

  two_alike : (x y : X) (xs : List X) → PassAlike (x ∷ y ∷ xs) (y ∷ x ∷ xs)
  two_alike x y xs = by (p x) (p y)
    where
      both : Bool → Bool → X → X → List X
      both a b u v = if a then u ∷ (if b then v ∷ filter p xs else filter p xs)
          else if b then v ∷ filter p xs else filter p xs

      by : (a b : Bool) → IsPermutation (both a b x y) (both b a y x)
      by true true = IsPermutation-middle (x ∷ []) y (filter p xs)
      by true false = IsPermutation-refl (x ∷ filter p xs)
      by false true = IsPermutation-refl (y ∷ filter p xs)
      by false false = IsPermutation-refl (filter p xs)

  put_alike : (v : X) (xs : List X) (j : ℕ) (d : X) → j < length xs →
      PassAlike (v ∷ xs) (get_or xs j d ∷ set xs j v)
  put_alike v [] j d within = absurd (omega (arith, within))
  put_alike v (y ∷ ys) zero d within = two_alike v y ys
  put_alike v (y ∷ ys) (suc j) d within =
      alike_trans (v ∷ y ∷ ys) (y ∷ v ∷ ys) (get_or ys j d ∷ y ∷ set ys j v) (two_alike v y ys)
      (alike_trans (y ∷ v ∷ ys) (y ∷ get_or ys j d ∷ set ys j v) (get_or ys j d ∷ y ∷ set ys j v)
      (one_alike y (v ∷ ys) (get_or ys j d ∷ set ys j v) (put_alike v ys j d (omega (arith, within))))
      (two_alike y (get_or ys j d) (set ys j v)))

  swap_alike : (xs : List X) (i j : ℕ) (d : X) → i < length xs → j < length xs →
      PassAlike xs (set (set xs i (get_or xs j d)) j (get_or xs i d))
  swap_alike [] i j d here there = absurd (omega (arith, here))
  swap_alike (y ∷ ys) zero zero d here there = IsPermutation-refl (filter p (y ∷ ys))
  swap_alike (y ∷ ys) zero (suc j) d here there = put_alike y ys j d (omega (arith, there))
  swap_alike (y ∷ ys) (suc i) zero d here there = put_alike y ys i d (omega (arith, here))
  swap_alike (y ∷ ys) (suc i) (suc j) d here there =
      one_alike y ys (set (set ys i (get_or ys j d)) j (get_or ys i d))
      (swap_alike ys i j d (omega (arith, here)) (omega (arith, there)))

  swapped : (xs ys : List X) (i j : ℕ) → i < length ys → j < length ys → PassAlike xs ys →
      PassAlike xs (swap ys i j)
  swapped xs [] i j here there h = absurd (omega (arith, here))
  swapped xs (y ∷ ys) i j here there h =
      alike_trans xs (y ∷ ys) (swap (y ∷ ys) i j) h (swap_alike (y ∷ ys) i j y here there)

  pub filter_permutation : (xs ys : List X) → IsPermutation xs ys → PassAlike xs ys
  filter_permutation xs ys moved =
      IsPermutation-keeps xs (λ zs. PassAlike xs zs) (IsPermutation-refl (filter p xs)) (swapped xs) ys moved

-- ---- what passes tests

module _ {X : Type 0} where
  pub filter_all : (p : X → Bool) (xs : List X) → AllByRecursion (λ x. p x ≡ true) xs → filter p xs ≡ xs
  filter_all p [] h = refl
  filter_all p (x ∷ xs) h =
      ap (λ (b : Bool). if b then x ∷ filter p xs else filter p xs) h.0
      ∙ ap (λ (l : List X). x ∷ l) (filter_all p xs h.1)

  pub filter_none : (p : X → Bool) (xs : List X) → AllByRecursion (λ x. p x ≡ false) xs → filter p xs ≡ []
  filter_none p [] h = refl
  filter_none p (x ∷ xs) h =
      ap (λ (b : Bool). if b then x ∷ filter p xs else filter p xs) h.0 ∙ filter_none p xs h.1

  pub none_passes : (p : X → Bool) (xs : List X) → filter p xs ≡ [] → AllByRecursion (λ x. p x ≡ false) xs
  none_passes p [] h = tt
  none_passes p (x ∷ xs) h = by (p x) refl h (none_passes p xs)
    where
      by : (b : Bool) → p x ≡ b → (if b then x ∷ filter p xs else filter p xs) ≡ [] →
          (filter p xs ≡ [] → AllByRecursion (λ x. p x ≡ false) xs) → AllByRecursion (λ x. p x ≡ false) (x ∷ xs)
      by true e none rest = absurd (cc)
      by false e none rest = (e, rest none)

  -- the order of two tests doesn't matter
  pub filter_swap : (p q : X → Bool) (xs : List X) → filter p (filter q xs) ≡ filter q (filter p xs)
  filter_swap p q [] = refl
  filter_swap p q (x ∷ xs) = by (p x) refl (q x) refl (filter_swap p q xs)
    where
      by : (a : Bool) → p x ≡ a → (b : Bool) → q x ≡ b → filter p (filter q xs) ≡ filter q (filter p xs) →
          filter p (if b then x ∷ filter q xs else filter q xs)
          ≡ filter q (if a then x ∷ filter p xs else filter p xs)
      by true e true f same =
          ap (λ (c : Bool). if c then x ∷ filter p (filter q xs) else filter p (filter q xs)) e
          ∙ ap (λ (l : List X). x ∷ l) same
          ∙ sym (ap (λ (c : Bool). if c then x ∷ filter q (filter p xs) else filter q (filter p xs)) f)
      by true e false f same =
          same ∙ sym (ap (λ (c : Bool). if c then x ∷ filter q (filter p xs) else filter q (filter p xs)) f)
      by false e true f same =
          ap (λ (c : Bool). if c then x ∷ filter p (filter q xs) else filter p (filter q xs)) e ∙ same
      by false e false f same = same

  -- two tests that agree on each
  pub filter_same : (p q : X → Bool) (xs : List X) → AllByRecursion (λ x. p x ≡ q x) xs → filter p xs ≡ filter q xs
  filter_same p q [] h = refl
  filter_same p q (x ∷ xs) h =
      ap (λ (b : Bool). if b then x ∷ filter p xs else filter p xs) h.0 ∙ by (q x) (filter_same p q xs h.1)
    where
      by : (b : Bool) → filter p xs ≡ filter q xs →
          (if b then x ∷ filter p xs else filter p xs) ≡ (if b then x ∷ filter q xs else filter q xs)
      by true e = ap (λ (l : List X). x ∷ l) e
      by false e = e

  pub passes : (p : X → Bool) (xs : List X) → AllByRecursion (λ x. p x ≡ true) (filter p xs)
  passes p [] = tt
  passes p (x ∷ xs) = by (p x) refl (passes p xs)
    where
      by : (b : Bool) → p x ≡ b → AllByRecursion (λ x. p x ≡ true) (filter p xs) →
          AllByRecursion (λ x. p x ≡ true) (if b then x ∷ filter p xs else filter p xs)
      by true e rest = (e, rest)
      by false e rest = rest

  pub all_weaker : {P Q : X → Type 0} → ((x : X) → P x → Q x) → (xs : List X) → AllByRecursion P xs →
      AllByRecursion Q xs
  all_weaker f [] h = tt
  all_weaker f (x ∷ xs) h = (f x h.0, all_weaker f xs h.1)

  -- where one test passes what another does, and this comes to both
  pub filter_twice : (p q : X → Bool) → ((x : X) → p x ≡ true → q x ≡ true) → (xs : List X) →
      filter p (filter q xs) ≡ filter p xs
  filter_twice p q weaker xs =
      filter_swap p q xs
      ∙ filter_all q (filter p xs) (all_weaker weaker (filter p xs) (passes p xs))

pub filter_map : {X Y : Type 0} (p : Y → Bool) (f : X → Y) (xs : List X) →
    filter p (map f xs) ≡ map f (filter (λ x. p (f x)) xs)
filter_map p f [] = refl
filter_map p f (x ∷ xs) = by (p (f x)) (filter_map p f xs)
  where
    by : (b : Bool) → filter p (map f xs) ≡ map f (filter (λ x. p (f x)) xs) →
        (if b then f x ∷ filter p (map f xs) else filter p (map f xs))
        ≡ map f (if b then x ∷ filter (λ x. p (f x)) xs else filter (λ x. p (f x)) xs)
    by true e = ap (λ l. f x ∷ l) e
    by false e = e

-- ---- parts in another order

module _ {X : Type 0} where
  pub parts_swap : (a b c : List X) → IsPermutation (a ++ (b ++ c)) (b ++ (a ++ c))
  parts_swap a b c =
      subst (λ (l : List X). IsPermutation l (b ++ (a ++ c))) (append_assoc a b c)
      (subst (λ (l : List X). IsPermutation ((a ++ b) ++ c) l) (append_assoc b a c)
      (IsPermutation-append_left c (a ++ b) (b ++ a) (IsPermutation-append_comm a b)))

-- ---- what is so of each

pub all_joined : {X : Type 0} (P : X → Type 0) (xs ys : List X) → AllByRecursion P xs → AllByRecursion P ys →
    AllByRecursion P (xs ++ ys)
all_joined P [] ys h k = k
all_joined P (x ∷ xs) ys h k = (h.0, all_joined P xs ys h.1 k)

pub all_mapped : {X Y : Type 0} (P : Y → Type 0) (f : X → Y) (xs : List X) → AllByRecursion (λ x. P (f x)) xs →
    AllByRecursion P (map f xs)
all_mapped P f [] h = tt
all_mapped P f (x ∷ xs) h = (h.0, all_mapped P f xs h.1)

pub all_passed : {X : Type 0} (P Q : X → Type 0) (p : X → Bool) (xs : List X) → ((x : X) → P x → p x ≡ true → Q x) →
    AllByRecursion P xs → AllByRecursion Q (filter p xs)
all_passed P Q p [] f h = tt
all_passed P Q p (x ∷ xs) f h = by (p x) refl (all_passed P Q p xs f h.1)
  where
    by : (b : Bool) → p x ≡ b → AllByRecursion Q (filter p xs) →
        AllByRecursion Q (if b then x ∷ filter p xs else filter p xs)
    by true e rest = (f x h.0 e, rest)
    by false e rest = rest
