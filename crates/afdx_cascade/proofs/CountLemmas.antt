-- How many of a list pass a test.
use Rattle.std.proofs.Common.{◌≡◌, ℕ, zero, suc, ◌+◌, ◌<◌, ◌≤◌, ◌&&◌, Bool, true, false, List, [], ◌∷◌, ◌++◌}
use Rattle.std.proofs.Common.{map, filter, refl, ap, ◌∙◌, subst, arith, inl, inr}
use Rattle.std.specs.Prelude.{if◌then◌else◌, Some, slice_get}
use Rattle.std.proofs.lemmas.Bool.{cases_Bool, and_parts}
use Rattle.std.specs.List.{AllByRecursion}
use Rattle.afdx_port.specs.Schedule.{Entry, Turn, has_turn, AreTurns}
use Rattle.afdx_port.specs.Classes.{without_turn}
use Rattle.afdx_port.proofs.TurnLemmas.{eqb-same, eqb-other}
use Rattle.afdx_cascade.specs.SwitchEvents.{count_if}

-- one more, if it passes
abbrev pub one_if : Bool → ℕ
one_if b = if b then 1 else 0

module _ {X : Type 0} (test : X → Bool) where
  pub count-more : (x : X) (xs : List X)
      → count_if test (x ∷ xs) ≡ one_if (test x) + count_if test xs
  count-more x xs = by (test x)
    where
      by : (b : Bool) → (if b then suc (count_if test xs) else count_if test xs)
          ≡ one_if b + count_if test xs
      by true = omega arith
      by false = omega arith

  pub count-append : (xs ys : List X)
      → count_if test (xs ++ ys) ≡ count_if test xs + count_if test ys
  count-append [] ys = omega arith
  count-append (x ∷ xs) ys =
      let more = count-more x (xs ++ ys) in
      let here = count-more x xs in
      let rest = count-append xs ys in
      omega (arith, more, here, rest)

  pub count-filter : (keep : X → Bool) (xs : List X)
      → count_if test (filter keep xs) ≤ count_if test xs
  count-filter keep [] = omega arith
  count-filter keep (x ∷ xs) =
      by (keep x) (test x) (count-more x xs) (count-more x (filter keep xs)) (count-filter keep xs)
    where
      by : (b p : Bool) → count_if test (x ∷ xs) ≡ one_if p + count_if test xs
          → count_if test (x ∷ filter keep xs) ≡ one_if p + count_if test (filter keep xs)
          → count_if test (filter keep xs) ≤ count_if test xs →
          count_if test (if b then x ∷ filter keep xs else filter keep xs) ≤ count_if test (x ∷ xs)
      by true true more kept rest = omega (arith, more, kept, rest)
      by true false more kept rest = omega (arith, more, kept, rest)
      by false true more kept rest = omega (arith, more, rest)
      by false false more kept rest = omega (arith, more, rest)

  pub count-map : {Y : Type 0} (f : Y → X) (ys : List Y)
      → count_if test (map f ys) ≡ count_if (λ y. test (f y)) ys
  count-map f [] = refl
  count-map f (y ∷ ys) = by (test (f y)) (count-map f ys)
    where
      by : (b : Bool) → count_if test (map f ys) ≡ count_if (λ z. test (f z)) ys
          → (if b then suc (count_if test (map f ys)) else count_if test (map f ys))
          ≡ (if b then suc (count_if (λ z. test (f z)) ys) else count_if (λ z. test (f z)) ys)
      by true rest = ap suc rest
      by false rest = rest

  -- if one is counted, there is one
  pub one-of : (xs : List X) → 1 ≤ count_if test xs
      → (before : List X) × (x : X) × (after : List X) × (xs ≡ before ++ x ∷ after)
      × (test x ≡ true)
  one-of [] some = absurd (omega (arith, some))
  one-of (x ∷ xs) some = by (test x) refl some (λ more. one-of xs more)
    where
      by : (b : Bool) → test x ≡ b → 1 ≤ (if b then suc (count_if test xs) else count_if test xs)
          → (1 ≤ count_if test xs
          → (before : List X) × (y : X) × (after : List X) × (xs ≡ before ++ y ∷ after)
          × (test y ≡ true))
          → (before : List X) × (y : X) × (after : List X) × (x ∷ xs ≡ before ++ y ∷ after)
          × (test y ≡ true)
      by true is some-more later = ([], x, xs, refl, is)
      by false is some-more later =
          let rest = later some-more in
          (x ∷ rest.0, rest.1, rest.2, ap (λ ys. x ∷ ys) rest.3, rest.4)

-- where one test implies another
pub count-implied : {X : Type 0} (p q : X → Bool) (xs : List X)
    → AllByRecursion (λ x. p x ≡ true → q x ≡ true) xs → count_if p xs ≤ count_if q xs
count-implied p q [] all = omega arith
count-implied p q (x ∷ xs) all =
    by (p x) (q x) refl refl (count-more p x xs) (count-more q x xs) (count-implied p q xs all.1)
  where
    by : (a b : Bool) → p x ≡ a → q x ≡ b → count_if p (x ∷ xs) ≡ one_if a + count_if p xs
        → count_if q (x ∷ xs) ≡ one_if b + count_if q xs → count_if p xs ≤ count_if q xs
        → count_if p (x ∷ xs) ≤ count_if q (x ∷ xs)
    by true true is-p is-q more-p more-q rest = omega (arith, more-p, more-q, rest)
    by true false is-p is-q more-p more-q rest = absurd (let yes-q = all.0 is-p in cc)
    by false true is-p is-q more-p more-q rest = omega (arith, more-p, more-q, rest)
    by false false is-p is-q more-p more-q rest = omega (arith, more-p, more-q, rest)

-- as many of these are meant at most as of those, where it is so of each name, each of these has a
-- name, and what has one name in common has all
module _ {X : Type 0} (meant : X → Bool) (named : ℕ → X → Bool)
    (alike : (v w : ℕ) (x y : X) → named v x ≡ true → named v y ≡ true
    → named w x ≡ named w y) where
  abbrev both : ℕ → X → Bool
  both v x = meant x && named v x

  pub by-names : (xs ys : List X)
      → AllByRecursion (λ x. (v : ℕ) × (named v x ≡ true)) xs
      → ((v : ℕ) → count_if (both v) xs ≤ count_if (both v) ys)
      → count_if meant xs ≤ count_if meant ys
  by-names [] ys each less = omega arith
  by-names (x ∷ xs) ys each less = by (meant x) refl (λ zs fewer. by-names xs zs each.1 fewer)
    where
      unmeant : (v : ℕ) → meant x ≡ false → count_if (both v) (x ∷ xs) ≡ count_if (both v) xs
      unmeant v is = rw is refl

      here : (v : ℕ) → meant x ≡ true → named v x ≡ true
          → count_if (both v) (x ∷ xs) ≡ suc (count_if (both v) xs)
      here v is is-named = rw (is, is-named) refl

      without : (v : ℕ) (before after : List X) (y : X) → ys ≡ before ++ y ∷ after
          → meant x ≡ true → meant y ≡ true → named v x ≡ true → named v y ≡ true
          → (w : ℕ) → count_if (both w) xs ≤ count_if (both w) (before ++ after)
      without v before after y is meant-x meant-y named-x named-y w =
          let same : named w x ≡ named w y = alike v w x y named-x named-y in
          let le = less w in
          let there : count_if (both w) ys ≡ count_if (both w) before
          + count_if (both w) (y ∷ after) =
          ap (count_if (both w)) is ∙ count-append (both w) before (y ∷ after) in
          let parts = count-append (both w) before after in
          let one-x = count-more (both w) x xs in
          let one-y = count-more (both w) y after in
          let eq : one_if (both w x) ≡ one_if (both w y) = rw (meant-x, meant-y, same) refl in
          omega (arith, le, there, parts, one-x, one-y, eq)

      by : (b : Bool) → meant x ≡ b
          → ((zs : List X) → ((v : ℕ) → count_if (both v) xs ≤ count_if (both v) zs)
          → count_if meant xs ≤ count_if meant zs)
          → count_if meant (x ∷ xs) ≤ count_if meant ys
      by false is later = rw is
          (later ys (λ v. subst (λ n. n ≤ count_if (both v) ys) (unmeant v is) (less v)))
      by true is later =
          let v = each.0.0 in
          let named-x = each.0.1 in
          let some : 1 ≤ count_if (both v) ys =
          (let le = less v in let more = here v is named-x in omega (arith, le, more)) in
          let found = one-of (both v) ys some in
          let parts = and_parts (meant found.1) (named v found.1) found.4 in
          let rest = later (found.0 ++ found.2)
          (without v found.0 found.2 found.1 found.3 is parts.0 named-x parts.1) in
          let all : count_if meant ys ≡ count_if meant found.0
          + count_if meant (found.1 ∷ found.2) =
          ap (count_if meant) found.3 ∙ count-append meant found.0 (found.1 ∷ found.2) in
          let fewer = count-append meant found.0 found.2 in
          let one-y : count_if meant (found.1 ∷ found.2) ≡ suc (count_if meant found.2) =
          rw (parts.0) refl in
          rw is (omega (arith, rest, all, fewer, one-y))

-- the entries are those with a turn and those without
module _ {X : Type 0} (test : Entry X → Bool) where
  -- a turn of an earlier place takes nothing out
  out-above : (s : Turn X) (turns : List (Turn X)) (place : ℕ) (es : List (Entry X))
      → s.place < place → without_turn (s ∷ turns) place es ≡ without_turn turns place es
  out-above s turns place [] lt = refl
  out-above s turns place (e ∷ es) lt =
      let rest = out-above s turns (place + 1) es (omega (arith, lt)) in
      rw (eqb-other s.place place (λ q. omega (arith, q, lt)))
      (ap (λ zs. if has_turn turns place then zs else e ∷ zs) rest)

  one-out : (s : Turn X) (turns : List (Turn X)) (place i : ℕ) (e : Entry X) (es : List (Entry X))
      → slice_get es i ≡ Some e → s.place ≡ place + i → has_turn turns s.place ≡ false →
      count_if test (without_turn turns place es)
      ≡ one_if (test e) + count_if test (without_turn (s ∷ turns) place es)
  one-out s turns place i e [] at is free = absurd cc
  one-out s turns place zero e (d ∷ ds) at is free =
      let here : s.place ≡ place = omega (arith, is) in
      let same : d ≡ e = cc at in
      let none : has_turn turns place ≡ false =
      subst (λ (p : ℕ). has_turn turns p ≡ false) here free in
      let rest = out-above s turns (place + 1) ds (omega (arith, here)) in
      rw (eqb-same s.place place here, none, rest, same)
      (count-more test e (without_turn turns (place + 1) ds))
  one-out s turns place (suc i) e (d ∷ ds) at is free =
      let other = eqb-other s.place place (λ q. omega (arith, q, is)) in
      let rest = one-out s turns (place + 1) i e ds at (omega (arith, is)) free in
      elim (cases_Bool (has_turn turns place)) [
        | inl has ↦ rw (other, has) rest
        | inr none ↦
            (let left = count-more test d (without_turn turns (place + 1) ds) in
            let right = count-more test d (without_turn (s ∷ turns) (place + 1) ds) in
            rw (other, none) (omega (arith, rest, left, right)))
      ]

  none-out : (place : ℕ) (es : List (Entry X)) → without_turn [] place es ≡ es
  none-out place [] = refl
  none-out place (e ∷ es) = ap (λ zs. e ∷ zs) (none-out (place + 1) es)

  pub turns-and-rest : (byte_ns : ℕ) (entries : List (Entry X)) (turns : List (Turn X))
      → AreTurns byte_ns entries turns
      → count_if test entries
      ≡ count_if (λ s. test s.entry) turns + count_if test (without_turn turns 0 entries)
  turns-and-rest byte_ns entries [] are =
      let same = ap (count_if test) (none-out 0 entries) in omega (arith, same)
  turns-and-rest byte_ns entries (s ∷ earlier) are =
      let before = turns-and-rest byte_ns entries earlier are.1 in
      let out = one-out s earlier 0 s.place s.entry entries are.0.own.stands
      (omega arith) are.0.own.without in
      let more = count-more (λ r. test r.entry) s earlier in
      omega (arith, before, out, more)
