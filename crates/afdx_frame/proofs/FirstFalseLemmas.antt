-- The first false line of several, one after the other.
use Rattle.std.proofs.lemmas.Bool.Decides.{nat_tests}
use Rattle.std.proofs.lemmas.Bool.{cases_eq}
use Rattle.std.proofs.Common.{inl, inr, subst}
use Rattle.std.proofs.Common.{◌≡◌, ℕ, zero, suc, ◌+◌, ◌-◌, ◌<◌, ◌≤◌, nat_le, Bool, true, false}
use Rattle.std.proofs.Common.{List, [], ◌∷◌, ◌++◌, Option, Some, None, if◌then◌else◌, refl}
use Rattle.std.proofs.Common.{sym, ap, ◌∙◌, arith}
use Rattle.afdx_frame.specs.Lines.{Line, first_false, each_from}

pub first_false-skip : {F : Type 0} (l : Line F) (ls : List (Line F)) → l.holds ≡ true
    → first_false (l ∷ ls) ≡ first_false ls
unfolding first_false
first_false-skip l ls h = ap (λ b. if b then first_false ls else Some l.fault) h

pub first_false-nil : {F : Type 0} → first_false {F = F} [] ≡ None
unfolding first_false
first_false-nil = refl

pub first_false-append : {F : Type 0} (xs ys : List (Line F)) → first_false xs ≡ None
    → first_false (xs ++ ys) ≡ first_false ys
unfolding first_false
first_false-append [] ys h = refl
first_false-append (x ∷ xs) ys h = by x.holds refl h (first_false-append xs ys)
  where
    by : (b : Bool) → x.holds ≡ b → (if b then first_false xs else Some x.fault) ≡ None
        → (first_false xs ≡ None → first_false (xs ++ ys) ≡ first_false ys) →
        first_false (x ∷ (xs ++ ys)) ≡ first_false ys
    by true e h later = ap (λ b. if b then first_false (xs ++ ys) else Some x.fault) e ∙ later h
    by false e h later = absurd (cc h)

pub first_false-before : {F : Type 0} (xs ys : List (Line F)) (fault : F) → first_false xs ≡ Some fault
    → first_false (xs ++ ys) ≡ Some fault
unfolding first_false
first_false-before [] ys fault h = absurd (cc h)
first_false-before (x ∷ xs) ys fault h = by x.holds refl h (first_false-before xs ys fault)
  where
    by : (b : Bool) → x.holds ≡ b → (if b then first_false xs else Some x.fault) ≡ Some fault →
        (first_false xs ≡ Some fault → first_false (xs ++ ys) ≡ Some fault) → first_false (x ∷ (xs ++ ys)) ≡ Some fault
    by true e h later = ap (λ b. if b then first_false (xs ++ ys) else Some x.fault) e ∙ later h
    by false e h later = ap (λ b. if b then first_false (xs ++ ys) else Some x.fault) e ∙ h

-- the lines from a place on have the first false line of all
pub record IsSoFar {F : Type 0} (lines_of : ℕ → List (Line F)) (place end : ℕ) (all : Option F) : Type 0 where
  pub rest : (count : ℕ) → place + count ≡ end → first_false (each_from lines_of place count) ≡ all

module _ {F : Type 0} (lines_of : ℕ → List (Line F)) where
  pub so_far-start : (from count end : ℕ) → from + count ≡ end
      → IsSoFar lines_of from end (first_false (each_from lines_of from count))
  so_far-start from count end e =
      record {
        rest = λ n h. let same : n ≡ count = omega arith in
            ap (λ k. first_false (each_from lines_of from k)) same;
      }

  pub so_far-next : (place end : ℕ) (all : Option F) → IsSoFar lines_of place end all
      → first_false (lines_of place) ≡ None →
      IsSoFar lines_of (place + 1) end all
  unfolding each_from
  so_far-next place end all h none = record {
    rest = λ n e. let e' : place + suc n ≡ end = omega arith in
        sym (first_false-append (lines_of place) (each_from lines_of (place + 1) n) none) ∙ h.rest (suc n) e';
  }

  pub so_far-found : (place end : ℕ) (all : Option F) (fault : F)
      → IsSoFar lines_of place end all → place < end →
      first_false (lines_of place) ≡ Some fault → all ≡ Some fault
  unfolding each_from
  so_far-found place end all fault h within found =
      let n = end - (place + 1) in
      let e : place + suc n ≡ end = omega arith in
      sym (h.rest (suc n) e) ∙ first_false-before (lines_of place) (each_from lines_of (place + 1) n) fault found

  pub so_far-end : (place end : ℕ) (all : Option F) → IsSoFar lines_of place end all → place ≡ end → all ≡ None
  unfolding each_from first_false
  so_far-end place end all h e = let e' : place + zero ≡ end = omega arith in sym (h.rest zero e')

pub none_of : {A : Type 0} (o : Option A) → ((x : A) → o ≡ Some x → ⊥) → o ≡ None
none_of None h = refl
none_of (Some x) h = absurd (h x refl)

pub le-true : (a b : ℕ) → a ≤ b → nat_le a b ≡ true
le-true a b h = grind (arith, nat_tests)

pub le-false : (a b : ℕ) → b < a → nat_le a b ≡ false
le-false a b h = grind (arith, nat_tests)

pub true-le : (a b : ℕ) → nat_le a b ≡ true → a ≤ b
true-le a b h = grind (arith, nat_tests)

-- ---- none is false

pub record BothHold {F : Type 0} (l : Line F) (ls : List (Line F)) : Type 0 where
  pub one : l.holds ≡ true
  pub rest : first_false ls ≡ None

pub cons_holds : {F : Type 0} (l : Line F) (ls : List (Line F)) → first_false (l ∷ ls) ≡ None → BothHold l ls
unfolding first_false
cons_holds l ls h = by l.holds refl h
  where
    by : (b : Bool) → l.holds ≡ b → (if b then first_false ls else Some l.fault) ≡ None → BothHold l ls
    by true e h = record { one = e; rest = h }
    by false e h = absurd (cc h)

pub holds_cons : {F : Type 0} (l : Line F) (ls : List (Line F)) → l.holds ≡ true → first_false ls ≡ None
    → first_false (l ∷ ls) ≡ None
holds_cons l ls one rest = first_false-skip l ls one ∙ rest

pub append_holds : {F : Type 0} (xs ys : List (Line F)) → first_false (xs ++ ys) ≡ None
    → (first_false xs ≡ None) × (first_false ys ≡ None)
append_holds [] ys h = (first_false-nil, h)
append_holds (x ∷ xs) ys h =
    let both = cons_holds x (xs ++ ys) h in
    let later = append_holds xs ys both.rest in
    (holds_cons x xs both.one later.0, later.1)

pub holds_append : {F : Type 0} (xs ys : List (Line F)) → first_false xs ≡ None → first_false ys ≡ None
    → first_false (xs ++ ys) ≡ None
holds_append xs ys front back = first_false-append xs ys front ∙ back

pub each_holds : {F : Type 0} (f : ℕ → List (Line F)) (from count : ℕ) → first_false (each_from f from count) ≡ None
    → (k : ℕ) → from ≤ k → k < from + count →
    first_false (f k) ≡ None
unfolding each_from
each_holds f from zero h k low high = absurd (omega (arith, low, high))
each_holds f from (suc count) h k low high =
    let both = append_holds (f from) (each_from f (from + 1) count) h in
    elim (cases_eq from k) [
      | inl same ↦ subst (λ n. first_false (f n) ≡ None) same both.0
      | inr other ↦ each_holds f (from + 1) count both.1 k (omega (arith, low, other)) (omega (arith, high))
    ]

pub holds_each : {F : Type 0} (f : ℕ → List (Line F)) (from count : ℕ)
    → ((k : ℕ) → from ≤ k → k < from + count → first_false (f k) ≡ None) →
    first_false (each_from f from count) ≡ None
unfolding each_from
holds_each f from zero h = first_false-nil
holds_each f from (suc count) h =
    holds_append (f from) (each_from f (from + 1) count) (h from (omega arith) (omega arith))
    (holds_each f (from + 1) count (λ k low high. h k (omega (arith, low)) (omega (arith, high))))
