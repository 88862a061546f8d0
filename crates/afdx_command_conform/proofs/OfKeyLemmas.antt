-- The lines of a key among all lines.
use Rattle.std.proofs.Common.{◌≡◌, Bool, true, false, inl, inr, List, [], ◌∷◌, sym, ap, subst}
use Rattle.std.specs.Prelude.{if◌then◌else◌}
use Rattle.std.specs.List.{AllByRecursion}
use Rattle.afdx_command_conform.specs.Keys.{is_key}
use Rattle.afdx_command_conform.specs.Lines.{Due, of_key}
use Rattle.afdx_command_conform.specs.declared.key.Key.{Key}
use Rattle.afdx_command_conform.proofs.KeyLemmas.{key-cases, key-same, key-self}

pub own-key : (k : Key) (d : Due) (lines : List Due) → is_key k d.key ≡ true → of_key k (d ∷ lines) ≡ d ∷ of_key k lines
own-key k d lines e = ap (λ (b : Bool). if b then d ∷ of_key k lines else of_key k lines) e

pub other-key : (k : Key) (d : Due) (lines : List Due) → is_key k d.key ≡ false → of_key k (d ∷ lines) ≡ of_key k lines
other-key k d lines e = ap (λ (b : Bool). if b then d ∷ of_key k lines else of_key k lines) e

pub its-key : (d : Due) (lines : List Due) → of_key d.key (d ∷ lines) ≡ d ∷ of_key d.key lines
its-key d lines = own-key d.key d lines (key-self d.key)

pub own-keys : (k : Key) (lines : List Due) → AllByRecursion (λ d. k ≡ d.key) (of_key k lines)
own-keys k [] = tt
own-keys k (d ∷ lines) = elim (key-cases k d.key) [
  | inl same ↦ subst (λ (l : List Due). AllByRecursion (λ x. k ≡ x.key) l) (sym (own-key k d lines same))
      (key-same k d.key same, own-keys k lines)
  | inr other ↦ subst (λ (l : List Due). AllByRecursion (λ x. k ≡ x.key) l) (sym (other-key k d lines other))
      (own-keys k lines)
]

-- what is so of each line is so of those of a key, and the other way round
pub all-of-key : (P : Due → Type 0) (k : Key) (lines : List Due) → AllByRecursion P lines
    → AllByRecursion P (of_key k lines)
all-of-key P k [] h = tt
all-of-key P k (d ∷ lines) h = elim (key-cases k d.key) [
  | inl same ↦ subst (λ (l : List Due). AllByRecursion P l) (sym (own-key k d lines same))
      (h.0, all-of-key P k lines h.1)
  | inr other ↦ subst (λ (l : List Due). AllByRecursion P l) (sym (other-key k d lines other))
      (all-of-key P k lines h.1)
]

all-but-first : (P : Due → Type 0) (k : Key) (d : Due) (lines : List Due) → AllByRecursion P (of_key k (d ∷ lines))
    → AllByRecursion P (of_key k lines)
all-but-first P k d lines h = elim (key-cases k d.key) [
  | inl same ↦ (subst (λ (l : List Due). AllByRecursion P l) (own-key k d lines same) h).1
  | inr other ↦ subst (λ (l : List Due). AllByRecursion P l) (other-key k d lines other) h
]

pub of-each-key : (P : Due → Type 0) (lines : List Due) → ((k : Key) → AllByRecursion P (of_key k lines))
    → AllByRecursion P lines
of-each-key P [] h = tt
of-each-key P (d ∷ lines) h = (
  (subst (λ (l : List Due). AllByRecursion P l) (its-key d lines) (h d.key)).0,
  of-each-key P lines (λ k. all-but-first P k d lines (h k)),
)
