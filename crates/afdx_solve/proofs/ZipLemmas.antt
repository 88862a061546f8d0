-- Lists and options that stand to each other place by place.
use Rattle.std.proofs.Common.{◌≡◌, ℕ, zero, suc, ◌≤◌, Bool, true, false, cond, List, [], ◌∷◌, map, filter, Option, Some, None}
use Rattle.std.proofs.Common.{slice_get, option_map, option_and_then, refl, subst, arith}
use Rattle.std.specs.List.{AllZip, sum_by}
use Rattle.std.specs.Option.{option_map_or, unwrap_or}
use Rattle.std.proofs.lemmas.List.Sums.{sum_by-cons}
use Rattle.std.proofs.lemmas.Option.{same_Some}

-- both are there, or none is
abbrev pub OptionZip : {A B : Type 0} → (A → B → Type 0) → Option A → Option B → Type 0
OptionZip R None None = Unit {0}
OptionZip R None (Some y) = ⊥
OptionZip R (Some x) None = ⊥
OptionZip R (Some x) (Some y) = R x y

module _ {A B : Type 0} (R : A → B → Type 0) where
  pub zip-get : (xs : List A) (ys : List B) → AllZip R xs ys → (i : ℕ) → OptionZip R (slice_get xs i) (slice_get ys i)
  zip-get [] [] h i = tt
  zip-get [] (y ∷ ys) h i = absurd h
  zip-get (x ∷ xs) [] h i = absurd h
  zip-get (x ∷ xs) (y ∷ ys) h zero = h.0
  zip-get (x ∷ xs) (y ∷ ys) h (suc i) = zip-get xs ys h.1 i

  pub zip-some : (o : Option A) (p : Option B) (x : A) (y : B) → OptionZip R o p → o ≡ Some x → p ≡ Some y → R x y
  zip-some None p x y h d e = absurd (cc d)
  zip-some (Some a) None x y h d e = absurd h
  zip-some (Some a) (Some b) x y h d e =
      subst (λ z. R z y) (same_Some a x d) (subst (λ z. R a z) (same_Some b y e) h)

  -- at one place
  pub zip-at : (xs : List A) (ys : List B) → AllZip R xs ys → (i : ℕ) (x : A) (y : B) → slice_get xs i ≡ Some x
      → slice_get ys i ≡ Some y → R x y
  zip-at xs ys h i x y d e = zip-some (slice_get xs i) (slice_get ys i) x y (zip-get xs ys h i) d e

  -- one is there, so the other is
  pub zip-there : (o : Option A) (p : Option B) (x : A) → OptionZip R o p → o ≡ Some x → (y : B) × (p ≡ Some y)
      × (R x y)
  zip-there None p x h e = absurd (cc e)
  zip-there (Some a) None x h e = absurd h
  zip-there (Some a) (Some b) x h e = (b, refl, subst (λ z. R z b) (same_Some a x e) h)

  pub zip-back : (o : Option A) (p : Option B) (y : B) → OptionZip R o p → p ≡ Some y → (x : A) × (o ≡ Some x) × (R x y)
  zip-back None None y h e = absurd (cc e)
  zip-back None (Some b) y h e = absurd h
  zip-back (Some a) None y h e = absurd h
  zip-back (Some a) (Some b) y h e = (a, refl, subst (R a) (same_Some b y e) h)

  -- a test that agrees
  pub zip-test : (f : A → Bool) (g : B → Bool) → ((x : A) (y : B) → R x y → f x ≡ g y) → (o : Option A) (p : Option B)
      → OptionZip R o p → option_map_or f o false ≡ option_map_or g p false
  zip-test f g each None None h = refl
  zip-test f g each None (Some y) h = absurd h
  zip-test f g each (Some x) None h = absurd h
  zip-test f g each (Some x) (Some y) h = each x y h

  module _ {C D : Type 0} (S : C → D → Type 0) where
    pub zip-then : (f : A → Option C) (g : B → Option D) → ((x : A) (y : B) → R x y → OptionZip S (f x) (g y))
        → (o : Option A) (p : Option B) → OptionZip R o p → OptionZip S (option_and_then f o) (option_and_then g p)
    zip-then f g each None None h = tt
    zip-then f g each None (Some y) h = absurd h
    zip-then f g each (Some x) None h = absurd h
    zip-then f g each (Some x) (Some y) h = each x y h

    pub zip-map : (f : A → C) (g : B → D) → ((x : A) (y : B) → R x y → S (f x) (g y))
        → (o : Option A) (p : Option B) → OptionZip R o p → OptionZip S (option_map f o) (option_map g p)
    zip-map f g each None None h = tt
    zip-map f g each None (Some y) h = absurd h
    zip-map f g each (Some x) None h = absurd h
    zip-map f g each (Some x) (Some y) h = each x y h

    pub zip-maps : (f : A → C) (g : B → D) → ((x : A) (y : B) → R x y → S (f x) (g y))
        → (xs : List A) (ys : List B) → AllZip R xs ys → AllZip S (map f xs) (map g ys)
    zip-maps f g each [] [] h = tt
    zip-maps f g each [] (y ∷ ys) h = absurd h
    zip-maps f g each (x ∷ xs) [] h = absurd h
    zip-maps f g each (x ∷ xs) (y ∷ ys) h = (each x y h.0, zip-maps f g each xs ys h.1)

  pub zip-or : (f : A → ℕ) (g : B → ℕ) (d : ℕ) → ((x : A) (y : B) → R x y → f x ≤ g y) → (o : Option A) (p : Option B)
      → OptionZip R o p → option_map_or f o d ≤ option_map_or g p d
  zip-or f g d each None None h = omega arith
  zip-or f g d each None (Some y) h = absurd h
  zip-or f g d each (Some x) None h = absurd h
  zip-or f g d each (Some x) (Some y) h = each x y h

  pub zip-filter : (p : A → Bool) (q : B → Bool) → ((x : A) (y : B) → R x y → p x ≡ q y) → (xs : List A) (ys : List B)
      → AllZip R xs ys → AllZip R (filter p xs) (filter q ys)
  zip-filter p q each [] [] h = tt
  zip-filter p q each [] (y ∷ ys) h = absurd h
  zip-filter p q each (x ∷ xs) [] h = absurd h
  zip-filter p q each (x ∷ xs) (y ∷ ys) h =
      subst (λ b. AllZip R (filter p (x ∷ xs)) (cond b (y ∷ filter q ys) (filter q ys))) (each x y h.0)
      (by (p x) (zip-filter p q each xs ys h.1))
    where
      by : (b : Bool) → AllZip R (filter p xs) (filter q ys)
          → AllZip R (cond b (x ∷ filter p xs) (filter p xs)) (cond b (y ∷ filter q ys) (filter q ys))
      by true rest = (h.0, rest)
      by false rest = rest

  pub zip-sum : (v : A → ℕ) (w : B → ℕ) → ((x : A) (y : B) → R x y → v x ≤ w y) → (xs : List A) (ys : List B)
      → AllZip R xs ys → sum_by v xs ≤ sum_by w ys
  zip-sum v w each [] [] h = omega arith
  zip-sum v w each [] (y ∷ ys) h = absurd h
  zip-sum v w each (x ∷ xs) [] h = absurd h
  zip-sum v w each (x ∷ xs) (y ∷ ys) h =
      omega (arith, sum_by-cons v x xs, sum_by-cons w y ys, each x y h.0, zip-sum v w each xs ys h.1)

  pub zip-sum_same : (v : A → ℕ) (w : B → ℕ) → ((x : A) (y : B) → R x y → v x ≡ w y) → (xs : List A) (ys : List B)
      → AllZip R xs ys → sum_by v xs ≡ sum_by w ys
  zip-sum_same v w each [] [] h = refl
  zip-sum_same v w each [] (y ∷ ys) h = absurd h
  zip-sum_same v w each (x ∷ xs) [] h = absurd h
  zip-sum_same v w each (x ∷ xs) (y ∷ ys) h =
      omega (arith, sum_by-cons v x xs, sum_by-cons w y ys, each x y h.0, zip-sum_same v w each xs ys h.1)

-- lists that are one when mapped, place by place
module _ {A Z : Type 0} (f : A → Z) (R : A → A → Type 0) where
  pub zip-from : (xs ys : List A) → map f xs ≡ map f ys
      → ((i : ℕ) (x y : A) → slice_get xs i ≡ Some x → slice_get ys i ≡ Some y → f x ≡ f y → R x y) → AllZip R xs ys
  zip-from [] [] e each = tt
  zip-from [] (y ∷ ys) e each = absurd (cc e)
  zip-from (x ∷ xs) [] e each = absurd (cc e)
  zip-from (x ∷ xs) (y ∷ ys) e each =
      let head : f x ≡ f y = cc in
      let rest : map f xs ≡ map f ys = cc in
      (each 0 x y refl refl head, zip-from xs ys rest (λ i a b d g. each (suc i) a b d g))

pub zip-unwrap : (o p : Option ℕ) → OptionZip (λ x y. x ≤ y) o p → unwrap_or o 0 ≤ unwrap_or p 0
zip-unwrap None None h = omega arith
zip-unwrap None (Some y) h = absurd h
zip-unwrap (Some x) None h = absurd h
zip-unwrap (Some x) (Some y) h = h
