-- Slots that hold a frame or none, and the first of them that passes a test.
use Rattle.std.proofs.Common.{◌≡◌, ℕ, zero, suc, ◌+◌, ◌<◌, ◌≤◌, Bool, true, false, List, [], ◌∷◌, ◌++◌, refl, sym, ap, ◌∙◌}
use Rattle.std.proofs.Common.{arith, length, drop, Option, Some, None}
use Rattle.std.specs.Prelude.{if◌then◌else◌, not, find, filter_map, position, slice_index_or, slice_set}
use Rattle.std.specs.List.{position_or_len}
use Rattle.std.proofs.lemmas.List.Sums.{prefix_len-le-length}
use Rattle.afdx_lawful.specs.Partners.{without_first}
use Rattle.afdx_lawful.proofs.RingLemmas.{at_none, at_place, one_more}

-- ---- the first that passes

module _ {X : Type 0} (p : X → Bool) where
  pub within : (xs : List X) → position_or_len p xs ≤ length xs
  within xs = prefix_len-le-length (λ x. not (p x)) xs

  pub behind : (xs : List X) (k : ℕ) → k ≤ position_or_len p xs →
      k + position_or_len p (drop k xs) ≡ position_or_len p xs
  behind xs zero h = omega arith
  behind [] (suc k) h = absurd (omega (arith, h))
  behind (x ∷ xs) (suc k) h = by (p x) (behind xs k) h
    where
      by : (b : Bool) → (k ≤ position_or_len p xs → k + position_or_len p (drop k xs) ≡ position_or_len p xs) →
          suc k ≤ (if not b then 1 + position_or_len p xs else 0) →
          suc k + position_or_len p (drop k xs) ≡ (if not b then 1 + position_or_len p xs else 0)
      by true rest h = absurd (omega (arith, h))
      by false rest h = omega (arith, rest (omega (arith, h)))

  length_behind : (xs : List X) (k : ℕ) → k ≤ length xs → k + length (drop k xs) ≡ length xs
  length_behind xs zero h = omega arith
  length_behind [] (suc k) h = absurd (omega (arith, h))
  length_behind (x ∷ xs) (suc k) h = omega (arith, length_behind xs k (omega (arith, h)))

  -- what a search behind a place finds, before which none passes
  pub steps_on : (xs : List X) (k steps : ℕ) → k ≤ position_or_len p xs → Some steps ≡ position p (drop k xs) →
      k + steps ≡ position_or_len p xs
  steps_on xs k steps h e =
      omega (arith, behind xs k h, (at_place p (drop k xs) steps (sym e)).0)

  pub none_on : (xs : List X) (k : ℕ) → k ≤ position_or_len p xs → None ≡ position p (drop k xs) →
      length xs ≡ position_or_len p xs
  none_on xs k h e =
      omega (
        arith,
        behind xs k h,
        at_none p (drop k xs) (sym e),
        within xs,
        length_behind xs k (omega (arith, h, within xs)),
      )

  -- another one stands at a place, which doesn't pass
  pub cleared : (xs : List X) (k : ℕ) (y : X) → p y ≡ false →
      position_or_len p xs ≤ position_or_len p (slice_set xs k y)
  cleared [] k y e = omega arith
  cleared (x ∷ xs) zero y e = by (p x) (p y) e
    where
      by : (a b : Bool) → b ≡ false → (if not a then 1 + position_or_len p xs else 0)
          ≤ (if not b then 1 + position_or_len p xs else 0)
      by true b f = omega arith
      by false false f = omega arith
      by false true f = absurd (cc f)
  cleared (x ∷ xs) (suc k) y e = by (p x) (cleared xs k y e)
    where
      by : (a : Bool) → position_or_len p xs ≤ position_or_len p (slice_set xs k y) →
          (if not a then 1 + position_or_len p xs else 0)
          ≤ (if not a then 1 + position_or_len p (slice_set xs k y) else 0)
      by true rest = omega arith
      by false rest = omega (arith, rest)

  -- one more
  pub more_later : (xs : List X) (y : X) → position_or_len p xs ≤ position_or_len p (xs ++ y ∷ [])
  more_later [] y = omega arith
  more_later (x ∷ xs) y = by (p x) (more_later xs y)
    where
      by : (a : Bool) → position_or_len p xs ≤ position_or_len p (xs ++ y ∷ []) →
          (if not a then 1 + position_or_len p xs else 0)
          ≤ (if not a then 1 + position_or_len p (xs ++ y ∷ []) else 0)
      by true rest = omega arith
      by false rest = omega (arith, rest)

  pub more_passing : (xs : List X) (y : X) → p y ≡ true →
      position_or_len p xs ≡ position_or_len p (xs ++ y ∷ [])
  more_passing [] y e = by (p y) e
    where
      by : (a : Bool) → a ≡ true → 0 ≡ (if not a then 1 + 0 else 0)
      by true f = refl
      by false f = absurd (cc f)
  more_passing (x ∷ xs) y e =
      ap (λ n. if not (p x) then 1 + n else 0) (more_passing xs y e)

-- what passes a narrower test stands no sooner
pub narrower : {X : Type 0} (p q : X → Bool) → ((x : X) → q x ≡ true → p x ≡ true) → (xs : List X) →
    position_or_len p xs ≤ position_or_len q xs
narrower p q are [] = omega arith
narrower p q are (x ∷ xs) = by (p x) (q x) (are x) (narrower p q are xs)
  where
    by : (a b : Bool) → (b ≡ true → a ≡ true) → position_or_len p xs ≤ position_or_len q xs →
        (if not a then 1 + position_or_len p xs else 0) ≤ (if not b then 1 + position_or_len q xs else 0)
    by true b f rest = omega arith
    by false false f rest = omega (arith, rest)
    by false true f rest = absurd (cc (f refl))

-- ---- slots

module _ {X : Type 0} where
  abbrev held : List (Option X) → List X
  held slots = filter_map (λ (slot : Option X). slot) slots

  pub held_few : (slots : List (Option X)) → length (held slots) ≤ length slots
  held_few [] = omega arith
  held_few (None ∷ slots) = omega (arith, held_few slots)
  held_few (Some x ∷ slots) = omega (arith, held_few slots)

  pub held_more : (slots : List (Option X)) (x : X) → held (slots ++ Some x ∷ []) ≡ held slots ++ x ∷ []
  held_more [] x = refl
  held_more (None ∷ slots) x = held_more slots x
  held_more (Some y ∷ slots) x = ap (λ (l : List X). y ∷ l) (held_more slots x)

module _ {X : Type 0} (q : X → Bool) (t : Option X → Bool) (none : t None ≡ false)
    (some : (x : X) → t (Some x) ≡ q x) where
  -- the first that passes is taken
  pub taken : (slots : List (Option X)) (d : Option X) → position_or_len t slots < length slots →
      (slice_index_or slots (position_or_len t slots) d ≡ find q (held slots))
      × (held (slice_set slots (position_or_len t slots) None) ≡ without_first q (held slots))
      × (length (held (slice_set slots (position_or_len t slots) None)) + 1 ≡ length (held slots))
  unfolding without_first
  taken [] d h = absurd (omega (arith, h))
  taken (None ∷ slots) d h = by (t None) none (taken slots d) h
    where
      by : (b : Bool) → b ≡ false → (position_or_len t slots < length slots →
          (slice_index_or slots (position_or_len t slots) d ≡ find q (held slots))
          × (held (slice_set slots (position_or_len t slots) None) ≡ without_first q (held slots))
          × (length (held (slice_set slots (position_or_len t slots) None)) + 1 ≡ length (held slots))) →
          (if not b then 1 + position_or_len t slots else 0) < length (None ∷ slots) →
          (slice_index_or (None ∷ slots) (if not b then 1 + position_or_len t slots else 0) d ≡ find q (held slots))
          × (held (slice_set (None ∷ slots) (if not b then 1 + position_or_len t slots else 0) None)
          ≡ without_first q (held slots))
          × (length (held (slice_set (None ∷ slots) (if not b then 1 + position_or_len t slots else 0) None)) + 1
          ≡ length (held slots))
      by true e rest h = absurd (cc e)
      by false e rest h =
          let r = rest (omega (arith, h)) in (
            ap (λ n. slice_index_or (None ∷ slots) n d) (one_more (position_or_len t slots)) ∙ r.0,
            ap (λ n. held (slice_set (None ∷ slots) n None)) (one_more (position_or_len t slots)) ∙ r.1,
            ap (λ n. length (held (slice_set (None ∷ slots) n None)) + 1) (one_more (position_or_len t slots)) ∙ r.2,
          )
  taken (Some x ∷ slots) d h = by (t (Some x)) (q x) (some x) (taken slots d) h
    where
      by : (a b : Bool) → a ≡ b → (position_or_len t slots < length slots →
          (slice_index_or slots (position_or_len t slots) d ≡ find q (held slots))
          × (held (slice_set slots (position_or_len t slots) None) ≡ without_first q (held slots))
          × (length (held (slice_set slots (position_or_len t slots) None)) + 1 ≡ length (held slots))) →
          (if not a then 1 + position_or_len t slots else 0) < length (Some x ∷ slots) →
          (slice_index_or (Some x ∷ slots) (if not a then 1 + position_or_len t slots else 0) d
          ≡ (if b then Some x else find q (held slots)))
          × (held (slice_set (Some x ∷ slots) (if not a then 1 + position_or_len t slots else 0) None)
          ≡ (if b then held slots else x ∷ without_first q (held slots)))
          × (length (held (slice_set (Some x ∷ slots) (if not a then 1 + position_or_len t slots else 0) None)) + 1
          ≡ length (x ∷ held slots))
      by true true e rest h = (refl, refl, omega arith)
      by false false e rest h =
          let r = rest (omega (arith, h)) in
          let left : length (held (slice_set (Some x ∷ slots) (1 + position_or_len t slots) None))
          ≡ suc (length (held (slice_set slots (position_or_len t slots) None))) =
          ap (λ n. length (held (slice_set (Some x ∷ slots) n None))) (one_more (position_or_len t slots)) in (
            ap (λ n. slice_index_or (Some x ∷ slots) n d) (one_more (position_or_len t slots)) ∙ r.0,
            ap (λ n. held (slice_set (Some x ∷ slots) n None)) (one_more (position_or_len t slots))
                ∙ ap (λ (l : List X). x ∷ l) r.1,
            omega (arith, left, r.2),
          )
      by true false e rest h = absurd (cc e)
      by false true e rest h = absurd (cc e)

  pub none_taken : (slots : List (Option X)) → length slots ≤ position_or_len t slots →
      (None ≡ find q (held slots)) × (held slots ≡ without_first q (held slots))
  unfolding without_first
  none_taken [] h = (refl, refl)
  none_taken (None ∷ slots) h = by (t None) none (none_taken slots) h
    where
      by : (b : Bool) → b ≡ false → (length slots ≤ position_or_len t slots →
          (None ≡ find q (held slots)) × (held slots ≡ without_first q (held slots))) →
          length (None ∷ slots) ≤ (if not b then 1 + position_or_len t slots else 0) →
          (None ≡ find q (held slots)) × (held slots ≡ without_first q (held slots))
      by true e rest h = absurd (cc e)
      by false e rest h = rest (omega (arith, h))
  none_taken (Some x ∷ slots) h = by (t (Some x)) (q x) (some x) (none_taken slots) h
    where
      by : (a b : Bool) → a ≡ b → (length slots ≤ position_or_len t slots →
          (None ≡ find q (held slots)) × (held slots ≡ without_first q (held slots))) →
          length (Some x ∷ slots) ≤ (if not a then 1 + position_or_len t slots else 0) →
          (None ≡ (if b then Some x else find q (held slots)))
          × (x ∷ held slots ≡ (if b then held slots else x ∷ without_first q (held slots)))
      by true b e rest h = absurd (omega (arith, h))
      by false false e rest h =
          let r = rest (omega (arith, h)) in (r.0, ap (λ (l : List X). x ∷ l) r.1)
      by false true e rest h = absurd (cc e)

  -- where all pass that stand there, nothing is lost with those before the first
  pub none_lost : ((x : X) → q x ≡ true) → (slots : List (Option X)) (k : ℕ) → k ≤ position_or_len t slots →
      held (drop k slots) ≡ held slots
  none_lost all slots zero h = refl
  none_lost all [] (suc k) h = refl
  none_lost all (None ∷ slots) (suc k) h = by (t None) none (none_lost all slots k) h
    where
      by : (b : Bool) → b ≡ false → (k ≤ position_or_len t slots → held (drop k slots) ≡ held slots) →
          suc k ≤ (if not b then 1 + position_or_len t slots else 0) → held (drop k slots) ≡ held slots
      by true e rest h = absurd (cc e)
      by false e rest h = rest (omega (arith, h))
  none_lost all (Some x ∷ slots) (suc k) h = by (t (Some x)) (some x ∙ all x) h
    where
      by : (a : Bool) → a ≡ true → suc k ≤ (if not a then 1 + position_or_len t slots else 0) →
          held (drop k slots) ≡ x ∷ held slots
      by true e h = absurd (omega (arith, h))
      by false e h = absurd (cc e)
