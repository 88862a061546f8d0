-- What is kept at one place, and at the others.
use Rattle.std.proofs.Common.{◌≡◌, ℕ, ◌<◌, Bool, true, false, true≢false, List, length, get_or, set, refl, sym, ◌∙◌, subst}
use Rattle.std.proofs.lemmas.Bool.{eq-eqb, eqb-true}
use Rattle.std.proofs.lemmas.List.{get_or-set_other, get_or-set_same, get_or_default}
use Rattle.std.specs.Prelude.{nat_eq, if◌then◌else◌, Option, Some, None, Result, Ok, Err, IfNone, IfSome, OnErr}
use Rattle.afdx_lawful.specs.declared.sender.JudgedSource.{JudgedSource}
use Rattle.afdx_senders.specs.Followed.{ByPlace, Followed, StandsAt, put_at}

-- all that is kept at the places of a list
abbrev pub AreKept : ByPlace → List (Option JudgedSource) → Type 0
AreKept at xs = (k : ℕ) → StandsAt (at k) (get_or xs k None)

module _ (at : ByPlace) (xs : List (Option JudgedSource)) (place : ℕ) (slot : Option JudgedSource) (are : AreKept at xs)
    (within : place < length xs) where
  -- another one is kept there
  pub put_there : (f : Followed) → StandsAt (Some f) slot → AreKept (put_at place f at) (set xs place slot)
  put_there f stands k = by (nat_eq k place) refl
    where
      by : (b : Bool) → nat_eq k place ≡ b → StandsAt (if b then Some f else at k) (get_or (set xs place slot) k None)
      by true same =
          subst (λ n. StandsAt (Some f) (get_or (set xs place slot) n None)) (sym (eqb-true k place same))
          (subst (λ o. StandsAt (Some f) o) (sym (get_or-set_same xs place slot None within)) stands)
      by false other =
          subst (λ o. StandsAt (at k) o)
          (sym (get_or-set_other xs place k slot None (λ e. true≢false (sym (eq-eqb k place e) ∙ other)))) (are k)

  -- what is kept there stands for the same as before
  pub same_there : StandsAt (at place) slot → AreKept at (set xs place slot)
  same_there stands k = by (nat_eq k place) refl
    where
      by : (b : Bool) → nat_eq k place ≡ b → StandsAt (at k) (get_or (set xs place slot) k None)
      by true same =
          subst (λ n. StandsAt (at n) (get_or (set xs place slot) n None)) (sym (eqb-true k place same))
          (subst (λ o. StandsAt (at place) o) (sym (get_or-set_same xs place slot None within)) stands)
      by false other =
          subst (λ o. StandsAt (at k) o)
          (sym (get_or-set_other xs place k slot None (λ e. true≢false (sym (eq-eqb k place e) ∙ other)))) (are k)

-- what is read there
pub read_there : (at : ByPlace) (xs : List (Option JudgedSource)) (place : ℕ) (slot : Option JudgedSource)
    (o : Option Followed) → AreKept at xs
    → place < length xs → slot ≡ get_or xs place slot → at place ≡ o → StandsAt o slot
read_there at xs place slot o are within is there =
    subst (λ p. StandsAt p slot) there
    (subst (λ v. StandsAt (at place) v) (sym (is ∙ get_or_default xs place slot None within)) (are place))

pub none_there : (slot : Option JudgedSource) → StandsAt None slot → slot ≡ None
none_there None h = refl
none_there (Some source) h = absurd h

pub on_err : {X E : Type 0} {P Q : Type 0} → (P → Q) → (r : Result X E) → OnErr r P → OnErr r Q
on_err f (Ok x) p = tt
on_err f (Err e) p = f p

pub if_none : {X : Type 0} {P Q : Type 0} → (P → Q) → (r : Option X) → IfNone r P → IfNone r Q
if_none f (Some x) p = tt
if_none f None p = f p

pub if_some : {X : Type 0} {P Q : X → Type 0} → ((x : X) → P x → Q x) → (r : Option X) → IfSome r P → IfSome r Q
if_some f (Some x) p = f x p
if_some f None p = tt
