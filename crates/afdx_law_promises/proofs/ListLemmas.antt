-- Lists in reverse, and what holds of all elements.
use Rattle.std.proofs.Common.{◌≡◌, Bool, true, false, List, [], ◌∷◌, ◌++◌, map, filter, refl, sym, ap, ◌∙◌}
use Rattle.std.specs.Prelude.{reverse, if◌then◌else◌}
use Rattle.std.specs.List.{AllByRecursion}
use Rattle.std.proofs.lemmas.List.{map-append, reverse-append, reverse-reverse}
use Rattle.std.proofs.lemmas.List.Elements.{filter-append}

module _ {X : Type 0} where
  pub reverse-cons : (x : X) (xs : List X) → reverse (x ∷ xs) ≡ reverse xs ++ x ∷ []
  reverse-cons x xs = reverse-append (x ∷ []) xs

  filter-one : (p : X → Bool) (x : X) (xs : List X) → reverse (filter p (x ∷ xs))
      ≡ reverse (filter p xs) ++ filter p (x ∷ [])
  filter-one p x xs = by (p x)
    where
      by : (b : Bool) → reverse (if b then x ∷ filter p xs else filter p xs) ≡ reverse (filter p xs)
          ++ (if b then x ∷ [] else [])
      by true = reverse-cons x (filter p xs)
      by false = none (reverse (filter p xs))
        where
          none : (ys : List X) → ys ≡ ys ++ []
          none [] = refl
          none (y ∷ ys) = ap (λ zs. y ∷ zs) (none ys)

  pub filter-reverse : (p : X → Bool) (xs : List X) → filter p (reverse xs) ≡ reverse (filter p xs)
  filter-reverse p [] = refl
  filter-reverse p (x ∷ xs) =
      ap (filter p) (reverse-cons x xs) ∙ filter-append p (reverse xs) (x ∷ [])
      ∙ ap (λ ys. ys ++ filter p (x ∷ [])) (filter-reverse p xs) ∙ sym (filter-one p x xs)

  pub same-reversed : (xs ys : List X) → reverse xs ≡ reverse ys → xs ≡ ys
  same-reversed xs ys same = sym (reverse-reverse xs) ∙ ap reverse same ∙ reverse-reverse ys

  pub all-imply : (P Q : X → Type 0) (xs : List X) → ((x : X) → P x → Q x) → AllByRecursion P xs → AllByRecursion Q xs
  all-imply P Q [] imply all = tt
  all-imply P Q (x ∷ xs) imply all = (imply x all.0, all-imply P Q xs imply all.1)

  pub all-filter : (P : X → Type 0) (p : X → Bool) (xs : List X) → AllByRecursion P xs
      → AllByRecursion (λ x. P x × (p x ≡ true)) (filter p xs)
  all-filter P p [] all = tt
  all-filter P p (x ∷ xs) all = by (p x) refl (all-filter P p xs all.1)
    where
      by : (b : Bool) → p x ≡ b → AllByRecursion (λ y. P y × (p y ≡ true)) (filter p xs)
          → AllByRecursion (λ y. P y × (p y ≡ true)) (if b then x ∷ filter p xs else filter p xs)
      by true passes rest = ((all.0, passes), rest)
      by false fails rest = rest

module _ {X Y : Type 0} where
  pub map-reverse : (f : X → Y) (xs : List X) → map f (reverse xs) ≡ reverse (map f xs)
  map-reverse f [] = refl
  map-reverse f (x ∷ xs) =
      ap (map f) (reverse-cons x xs) ∙ map-append f (reverse xs) (x ∷ [])
      ∙ ap (λ ys. ys ++ f x ∷ []) (map-reverse f xs) ∙ sym (reverse-cons (f x) (map f xs))

  pub all-map : (P : Y → Type 0) (f : X → Y) (xs : List X) → AllByRecursion (λ x. P (f x)) xs
      → AllByRecursion P (map f xs)
  all-map P f [] all = tt
  all-map P f (x ∷ xs) all = (all.0, all-map P f xs all.1)
