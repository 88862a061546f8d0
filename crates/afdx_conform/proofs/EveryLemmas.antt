-- What holds of each element of a list, newest or oldest first.
use Rattle.std.proofs.Common.{◌≡◌, List, [], ◌∷◌, ◌++◌, map, reverse, sym, subst}
use Rattle.std.proofs.lemmas.List.{reverse-append}
use Rattle.std.specs.List.{AllByRecursion}

pub every-append : {X : Type 0} (P : X → Type 0) (xs ys : List X) → AllByRecursion P xs → AllByRecursion P ys
    → AllByRecursion P (xs ++ ys)
every-append P [] ys p q = q
every-append P (x ∷ xs) ys p q = (p.0, every-append P xs ys p.1 q)

pub every-left : {X : Type 0} (P : X → Type 0) (xs ys : List X) → AllByRecursion P (xs ++ ys) → AllByRecursion P xs
every-left P [] ys p = tt
every-left P (x ∷ xs) ys p = (p.0, every-left P xs ys p.1)

pub every-right : {X : Type 0} (P : X → Type 0) (xs ys : List X) → AllByRecursion P (xs ++ ys) → AllByRecursion P ys
every-right P [] ys p = p
every-right P (x ∷ xs) ys p = every-right P xs ys p.1

pub reverse-first : {X : Type 0} (x : X) (xs : List X) → reverse (x ∷ xs) ≡ reverse xs ++ (x ∷ [])
reverse-first x xs = reverse-append (x ∷ []) xs

pub every-reverse : {X : Type 0} (P : X → Type 0) (xs : List X) → AllByRecursion P xs → AllByRecursion P (reverse xs)
every-reverse P [] p = tt
every-reverse P (x ∷ xs) p =
    subst (λ l. AllByRecursion P l) (sym (reverse-first x xs))
    (every-append P (reverse xs) (x ∷ []) (every-reverse P xs p.1) (p.0, tt))

pub every-map : {X Y : Type 0} (P : Y → Type 0) (f : X → Y) (xs : List X) → AllByRecursion (λ x. P (f x)) xs
    → AllByRecursion P (map f xs)
every-map P f [] p = tt
every-map P f (x ∷ xs) p = (p.0, every-map P f xs p.1)

pub every-unmap : {X Y : Type 0} (P : Y → Type 0) (f : X → Y) (xs : List X) → AllByRecursion P (map f xs)
    → AllByRecursion (λ x. P (f x)) xs
every-unmap P f [] p = tt
every-unmap P f (x ∷ xs) p = (p.0, every-unmap P f xs p.1)

pub every-on : {X : Type 0} (P Q : X → Type 0) → ((x : X) → P x → Q x) → (xs : List X) → AllByRecursion P xs
    → AllByRecursion Q xs
every-on P Q to [] p = tt
every-on P Q to (x ∷ xs) p = (to x p.0, every-on P Q to xs p.1)

pub every-all : {X : Type 0} (P : X → Type 0) → ((x : X) → P x) → (xs : List X) → AllByRecursion P xs
every-all P all [] = tt
every-all P all (x ∷ xs) = (all x, every-all P all xs)
