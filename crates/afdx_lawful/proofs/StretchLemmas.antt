-- Stretches of places: from one on, so many.
use Rattle.std.proofs.Common.{◌≡◌, ℕ, zero, suc, ◌+◌, ◌<◌, ◌≤◌, ◌⊎◌, inl, inr, Bool, true, false, List, [], ◌∷◌, ◌++◌, refl, sym}
use Rattle.std.proofs.Common.{ap, ap₂, ◌∙◌, arith}
use Rattle.std.specs.Prelude.{◌&&◌, ◌||◌, not, nat_eq, nat_le, nat_lt, if◌then◌else◌, filter}
use Rattle.std.specs.List.{AllByRecursion, list_any}
use Rattle.std.proofs.lemmas.Bool.{and_from, and_parts, cases_eq, cond-true, cond-false, eq-eqb, false_from_ne_true, le-leb, leb-true}
use Rattle.std.proofs.lemmas.Bool.{leb-false, lt-ltb, ltb-true, ltb-false, ne_eqb}
use Rattle.std.proofs.lemmas.List.{append-nil}
use Rattle.std.proofs.lemmas.List.Elements.{filter-append}
use Rattle.std.proofs.lemmas.List.Folds.{list_any-append}
use Rattle.afdx_lawful.specs.Partners.{without_first}

unfoldable pub stretch : ℕ → ℕ → List ℕ
stretch from zero = []
stretch from (suc n) = stretch from n ++ (from + n) ∷ []

-- a place is in it
unfoldable pub is_in : ℕ → ℕ → ℕ → Bool
is_in from n place = nat_le from place && nat_lt place (from + n)

-- the places of one stretch that aren't in the other
abbrev pub not_in : ℕ → ℕ → List ℕ → List ℕ
not_in from n places = filter (λ p. not (is_in from n p)) places

pub in-it : (from n p : ℕ) → from ≤ p → p < from + n → is_in from n p ≡ true
unfolding is_in
in-it from n p low high =
    and_from (nat_le from p) (nat_lt p (from + n)) (le-leb from p low) (lt-ltb p (from + n) high)

pub within : (from n p : ℕ) → is_in from n p ≡ true → (from ≤ p) × (p < from + n)
unfolding is_in
within from n p h =
    let both = and_parts (nat_le from p) (nat_lt p (from + n)) h in
    (leb-true from p both.0, ltb-true p (from + n) both.1)

pub beside : (from n p : ℕ) → is_in from n p ≡ false → (p < from) ⊎ (from + n ≤ p)
unfolding is_in
beside from n p h = by (nat_le from p) (nat_lt p (from + n)) refl refl h
  where
    by : (a b : Bool) → nat_le from p ≡ a → nat_lt p (from + n) ≡ b → (a && b) ≡ false →
        (p < from) ⊎ (from + n ≤ p)
    by false b e f h = inl (leb-false from p e)
    by true false e f h = inr (ltb-false p (from + n) f)
    by true true e f h = absurd (cc h)

out : (from n p : ℕ) → (from ≤ p → p < from + n → ⊥) → is_in from n p ≡ false
out from n p h = false_from_ne_true (is_in from n p) (λ e. let both = within from n p e in h both.0 both.1)

-- behind the last one the next stands, and no other one comes in
pub out-last : (from n : ℕ) → is_in from n (from + n) ≡ false
out-last from n = out from n (from + n) (λ low high. omega (arith, high))

pub in-last : (from n : ℕ) → is_in from (suc n) (from + n) ≡ true
in-last from n = in-it from (suc n) (from + n) (omega arith) (omega arith)

pub in-more : (from n p : ℕ) → (p ≡ from + n → ⊥) → is_in from (suc n) p ≡ is_in from n p
in-more from n p other = by (is_in from n p) refl
  where
    by : (b : Bool) → is_in from n p ≡ b → is_in from (suc n) p ≡ is_in from n p
    by true e =
        let both = within from n p e in
        in-it from (suc n) p both.0 (omega (arith, both.1)) ∙ sym e
    by false e = out from (suc n) p (λ low high. by-place (beside from n p e) low high) ∙ sym e
      where
        by-place : (p < from) ⊎ (from + n ≤ p) → from ≤ p → p < from + suc n → ⊥
        by-place (inl less) low high = omega (arith, less, low)
        by-place (inr more) low high = other (omega (arith, more, high))

-- ---- lists

none-first : {X : Type 0} (test : X → Bool) (xs : List X) → list_any test xs ≡ false → without_first test xs ≡ xs
unfolding without_first
none-first test [] h = refl
none-first test (x ∷ xs) h = by (test x) refl h (λ k. none-first test xs k)
  where
    by : (b : Bool) → test x ≡ b → (b || list_any test xs) ≡ false →
        (list_any test xs ≡ false → without_first test xs ≡ xs) →
        (if test x then xs else x ∷ without_first test xs) ≡ x ∷ xs
    by true e h more = absurd (cc h)
    by false e h more =
        cond-false (test x) xs (x ∷ without_first test xs) e ∙ ap (λ l. x ∷ l) (more h)

first-before : {X : Type 0} (test : X → Bool) (xs last : List X) → list_any test last ≡ false →
    without_first test (xs ++ last) ≡ without_first test xs ++ last
unfolding without_first
first-before test [] last h = none-first test last h
first-before test (x ∷ xs) last h = by (test x) (first-before test xs last h)
  where
    by : (b : Bool) → without_first test (xs ++ last) ≡ without_first test xs ++ last →
        (if b then xs ++ last else x ∷ without_first test (xs ++ last))
        ≡ (if b then xs else x ∷ without_first test xs) ++ last
    by true more = refl
    by false more = ap (λ l. x ∷ l) more

first-behind : {X : Type 0} (test : X → Bool) (xs last : List X) → list_any test xs ≡ false →
    without_first test (xs ++ last) ≡ xs ++ without_first test last
unfolding without_first
first-behind test [] last h = refl
first-behind test (x ∷ xs) last h = by (test x) refl h (λ k. first-behind test xs last k)
  where
    by : (b : Bool) → test x ≡ b → (b || list_any test xs) ≡ false →
        (list_any test xs ≡ false → without_first test (xs ++ last) ≡ xs ++ without_first test last) →
        (if test x then xs ++ last else x ∷ without_first test (xs ++ last)) ≡ x ∷ (xs ++ without_first test last)
    by true e h more = absurd (cc h)
    by false e h more =
        cond-false (test x) (xs ++ last) (x ∷ without_first test (xs ++ last)) e ∙ ap (λ l. x ∷ l) (more h)

all-snoc : (P : ℕ → Type 0) (xs : List ℕ) (p : ℕ) (b : Bool) → AllByRecursion P xs → (b ≡ true → P p) →
    AllByRecursion P (xs ++ (if b then p ∷ [] else []))
all-snoc P [] p true h last = (last refl, tt)
all-snoc P [] p false h last = tt
all-snoc P (x ∷ xs) p b h last = (h.0, all-snoc P xs p b h.1 last)

-- ---- the places of a stretch that pass a test

pub all-in : (P : ℕ → Type 0) (test : ℕ → Bool) (from n : ℕ) →
    ((p : ℕ) → from ≤ p → p < from + n → test p ≡ true → P p) → AllByRecursion P (filter test (stretch from n))
unfolding stretch
all-in P test from zero h = tt
all-in P test from (suc n) h =
    rw (filter-append test (stretch from n) ((from + n) ∷ []))
    (all-snoc P (filter test (stretch from n)) (from + n) (test (from + n))
    (all-in P test from n (λ p low high e. h p low (omega (arith, high)) e))
    (λ e. h (from + n) (omega arith) (omega arith) e))

one-is : (test : ℕ → Bool) (p : ℕ) → test p ≡ true → filter test (p ∷ []) ≡ p ∷ []
one-is test p h = cond-true (test p) (p ∷ []) [] h

one-not : (test : ℕ → Bool) (p : ℕ) → test p ≡ false → filter test (p ∷ []) ≡ []
one-not test p h = cond-false (test p) (p ∷ []) [] h

-- one more, if it passes
pub more-in : (test : ℕ → Bool) (from n : ℕ) → test (from + n) ≡ true →
    filter test (stretch from (suc n)) ≡ filter test (stretch from n) ++ (from + n) ∷ []
unfolding stretch
more-in test from n h =
    filter-append test (stretch from n) ((from + n) ∷ [])
    ∙ ap (λ l. filter test (stretch from n) ++ l) (one-is test (from + n) h)

pub no-more-in : (test : ℕ → Bool) (from n : ℕ) → test (from + n) ≡ false →
    filter test (stretch from (suc n)) ≡ filter test (stretch from n)
unfolding stretch
no-more-in test from n h =
    filter-append test (stretch from n) ((from + n) ∷ [])
    ∙ ap (λ l. filter test (stretch from n) ++ l) (one-not test (from + n) h)
    ∙ append-nil (filter test (stretch from n))

abbrev pub is_place : ℕ → ℕ → Bool
is_place k p = nat_eq p k

not-one : (test : ℕ → Bool) (k p : ℕ) → (p ≡ k → ⊥) → list_any (is_place k) (filter test (p ∷ [])) ≡ false
not-one test k p other = by (test p)
  where
    by : (b : Bool) → list_any (is_place k) (if b then p ∷ [] else []) ≡ false
    by false = refl
    by true = ap (λ (b : Bool). b || false) (ne_eqb p k other)

-- a place that passes is among them exactly if it is in the stretch
pub any-in : (test : ℕ → Bool) (k from n : ℕ) → test k ≡ true →
    list_any (is_place k) (filter test (stretch from n)) ≡ is_in from n k
unfolding stretch
any-in test k from zero h = sym (out from zero k (λ low high. omega (arith, low, high)))
any-in test k from (suc n) h =
    ap (list_any (is_place k)) (filter-append test (stretch from n) ((from + n) ∷ []))
    ∙ list_any-append (is_place k) (filter test (stretch from n)) (filter test ((from + n) ∷ []))
    ∙ ap (λ b. b || list_any (is_place k) (filter test ((from + n) ∷ []))) (any-in test k from n h)
    ∙ by (cases_eq k (from + n))
  where
    or-none : (b : Bool) → (b || false) ≡ b
    or-none true = refl
    or-none false = refl

    or-some : (b : Bool) → (b || true) ≡ true
    or-some true = refl
    or-some false = refl

    by : (k ≡ from + n) ⊎ (k ≡ from + n → ⊥) →
        (is_in from n k || list_any (is_place k) (filter test ((from + n) ∷ []))) ≡ is_in from (suc n) k
    by (inl same) =
        let its : test (from + n) ≡ true = ap test (sym same) ∙ h in
        ap (λ b. is_in from n k || b)
        (ap (list_any (is_place k)) (one-is test (from + n) its)
        ∙ ap (λ b. b || false) (eq-eqb (from + n) k (sym same)))
        ∙ or-some (is_in from n k)
        ∙ sym (ap (is_in from (suc n)) same ∙ in-last from n)
    by (inr other) =
        ap (λ b. is_in from n k || b) (not-one test k (from + n) (λ e. other (sym e)))
        ∙ or-none (is_in from n k)
        ∙ sym (in-more from n k other)

-- where one place fails a test that passed another, and all else is as before, the first such place is left out
module _ (test next : ℕ → Bool) (k : ℕ) (passed : test k ≡ true) (fails : next k ≡ false)
    (same : (p : ℕ) → (p ≡ k → ⊥) → next p ≡ test p) where
  pub without-in : (from n : ℕ) →
      filter next (stretch from n) ≡ without_first (is_place k) (filter test (stretch from n))
  unfolding stretch without_first
  without-in from zero = refl
  without-in from (suc n) =
      filter-append next (stretch from n) ((from + n) ∷ [])
      ∙ ap (λ l. l ++ filter next ((from + n) ∷ [])) (without-in from n)
      ∙ by (cases_eq (from + n) k)
      ∙ ap (without_first (is_place k)) (sym (filter-append test (stretch from n) ((from + n) ∷ [])))
    where
      by : (from + n ≡ k) ⊎ (from + n ≡ k → ⊥) →
          without_first (is_place k) (filter test (stretch from n)) ++ filter next ((from + n) ∷ [])
          ≡ without_first (is_place k) (filter test (stretch from n) ++ filter test ((from + n) ∷ []))
      by (inl e) =
          let none : list_any (is_place k) (filter test (stretch from n)) ≡ false =
          any-in test k from n passed ∙ ap (is_in from n) (sym e) ∙ out-last from n in
          let front : without_first (is_place k) (filter test (stretch from n)) ≡ filter test (stretch from n) =
          none-first (is_place k) (filter test (stretch from n)) none in
          let last : without_first (is_place k) (filter test ((from + n) ∷ [])) ≡ [] =
          ap (without_first (is_place k)) (one-is test (from + n) (ap test e ∙ passed))
          ∙ cond-true (nat_eq (from + n) k) [] ((from + n) ∷ []) (eq-eqb (from + n) k e) in
          ap₂ (λ (a b : List ℕ). a ++ b) front (one-not next (from + n) (ap next e ∙ fails))
          ∙ ap (λ l. filter test (stretch from n) ++ l) (sym last)
          ∙ sym (first-behind (is_place k) (filter test (stretch from n)) (filter test ((from + n) ∷ [])) none)
      by (inr other) =
          let one : filter next ((from + n) ∷ []) ≡ filter test ((from + n) ∷ []) =
          ap (λ (b : Bool). if b then (from + n) ∷ [] else []) (same (from + n) other) in
          ap (λ l. without_first (is_place k) (filter test (stretch from n)) ++ l) one
          ∙ sym (first-before (is_place k) (filter test (stretch from n)) (filter test ((from + n) ∷ []))
          (not-one test k (from + n) other))
