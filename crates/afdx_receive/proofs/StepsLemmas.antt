use Rattle.std.proofs.Common.{◌≡◌, ℕ, zero, suc, ◌+◌, ◌-◌, ◌<◌, ◌≤◌, Bool, true, false, ◌||◌, ◌⊎◌}
use Rattle.std.proofs.Common.{inl, inr, eqb, refl, sym, ◌∙◌, ap, arith}
use Rattle.std.specs.Prelude.{IsTrue, nat_le}
use Rattle.std.proofs.lemmas.Bool.{eqb-true, eq-eqb, or_cases, or_left, or_right, cases_eq}
use Rattle.std.proofs.lemmas.Bool.{cases_lt, cond-true, cond-false, ne_eqb, false_from_ne_true}
use Rattle.std.proofs.lemmas.Bool.{leb-true, le-leb}
use Rattle.afdx_config.specs.Numbers.{next_number, after_steps}
use Rattle.afdx_receive.specs.Steps.{is_within_steps, IsDistance, IsUnreachable}

next-wrap : (n : ℕ) → n ≡ 255 → next_number n ≡ 1
next-wrap n e = cond-true (eqb n 255) 1 (n + 1) (eq-eqb n 255 e)

next-more : (n : ℕ) → (n ≡ 255 → ⊥) → next_number n ≡ n + 1
next-more n ne = cond-false (eqb n 255) 1 (n + 1) (ne_eqb n 255 ne)

-- no step leads to 0
pub next-positive : (n : ℕ) → 1 ≤ next_number n
next-positive n = by (cases_eq n 255)
  where
    by : (n ≡ 255) ⊎ (n ≡ 255 → ⊥) → 1 ≤ next_number n
    by (inl e) = omega (arith, next-wrap n e)
    by (inr ne) = omega (arith, next-more n ne)

-- where up to 255 steps lead: on, or around once
pub record Where (steps from : ℕ) : Type 0 where
  pub on : from + steps ≤ 255 → after_steps steps from ≡ from + steps
  pub around : 255 < from + steps → after_steps steps from + 255 ≡ from + steps

pub where_steps : (steps from : ℕ) → from ≤ 255 → steps ≤ 255 → Where steps from
unfolding after_steps
where_steps zero from low few = record { on = λ h. omega arith; around = λ h. absurd (omega arith) }
where_steps (suc steps) from low few =
    by (where_steps steps from low (omega arith)) (cases_lt 255 (from + steps))
    (cases_eq (after_steps steps from) 255)
  where
    by : Where steps from → (255 < from + steps) ⊎ (from + steps ≤ 255)
        → (after_steps steps from ≡ 255) ⊎ (after_steps steps from ≡ 255 → ⊥) →
        Where (suc steps) from
    by before (inl far) (inl e) = let at : after_steps steps from + 255 ≡ from + steps =
        before.around far in absurd (omega arith)
    by before (inl far) (inr ne) =
        let at : after_steps steps from + 255 ≡ from + steps = before.around far in
        let next : next_number (after_steps steps from) ≡ after_steps steps from + 1 =
        next-more (after_steps steps from) ne in
        record { on = λ h. absurd (omega arith); around = λ h. omega arith }
    by before (inr near) (inl e) =
        let at : after_steps steps from ≡ from + steps = before.on near in
        let next : next_number (after_steps steps from) ≡ 1 = next-wrap (after_steps steps from) e in
        record { on = λ h. absurd (omega arith); around = λ h. omega arith }
    by before (inr near) (inr ne) =
        let at : after_steps steps from ≡ from + steps = before.on near in
        let next : next_number (after_steps steps from) ≡ after_steps steps from + 1 =
        next-more (after_steps steps from) ne in
        record { on = λ h. omega arith; around = λ h. absurd (omega arith) }

-- one to `most` steps lead to a number exactly if some number of steps in that range does
pub within_some : (most from to : ℕ) → IsTrue (is_within_steps most from to) → (steps : ℕ)
    × (1 ≤ steps) × (steps ≤ most) × (after_steps steps from ≡ to)
unfolding is_within_steps
within_some zero from to h = absurd (cc)
within_some (suc most) from to h =
    by (λ e. within_some most from to e)
    (or_cases (is_within_steps most from to) (eqb (after_steps (suc most) from) to) h)
  where
    by : (is_within_steps most from to ≡ true → (steps : ℕ) × (1 ≤ steps) × (steps ≤ most)
        × (after_steps steps from ≡ to)) →
        (is_within_steps most from to ≡ true) ⊎ (eqb (after_steps (suc most) from) to ≡ true) →
        (steps : ℕ) × (1 ≤ steps) × (steps ≤ suc most) × (after_steps steps from ≡ to)
    by fewer (inl e) = let some = fewer e in (some.0, some.1, omega (arith, some.2), some.3)
    by fewer (inr e) = (suc most, omega arith, omega arith, eqb-true (after_steps (suc most) from) to e)

pub some_within : (most from to steps : ℕ) → 1 ≤ steps → steps ≤ most → after_steps steps from ≡ to
    → is_within_steps most from to ≡ true
unfolding is_within_steps
some_within zero from to steps low few e = absurd (omega arith)
some_within (suc most) from to steps low few e =
    by (λ fewer. some_within most from to steps low fewer e) (cases_eq steps (suc most))
  where
    by : (steps ≤ most → is_within_steps most from to ≡ true) → (steps ≡ suc most) ⊎ (steps ≡ suc most → ⊥) →
        (is_within_steps most from to || eqb (after_steps (suc most) from) to) ≡ true
    by fewer (inl same) =
        or_right (is_within_steps most from to) (eqb (after_steps (suc most) from) to)
        (eq-eqb (after_steps (suc most) from) to (ap (λ n. after_steps n from) (sym same) ∙ e))
    by fewer (inr other) = or_left (is_within_steps most from to)
        (eqb (after_steps (suc most) from) to) (fewer (omega arith))

-- no step leads to 0
pub none_to_zero : (from to : ℕ) → to ≡ 0 → IsUnreachable from to
unfolding after_steps
none_to_zero from to e zero low leads = omega arith
none_to_zero from to e (suc steps) low leads = omega (arith, next-positive (after_steps steps from))

-- the code's arithmetic
pub distance_on : (from to : ℕ) → to ≤ 255 → from < to → IsDistance from to (to - from)
distance_on from to top above = record {
  some = omega arith;
  leads = omega (arith, (where_steps (to - from) from (omega arith) (omega arith)).on);
  least = λ others low leads. fewer others leads (cases others);
}
  where
    cases : (n : ℕ) → (n ≤ 255) ⊎ (255 < n)
    cases n = grind arith

    near : (others : ℕ) → after_steps others from ≡ to → Where others from → (255 < from + others)
        ⊎ (from + others ≤ 255) → to - from ≤ others
    near others leads at (inl far) = let e : after_steps others from + 255 ≡ from + others =
        at.around far in omega arith
    near others leads at (inr close) = let e : after_steps others from ≡ from + others = at.on close in omega arith

    fewer : (others : ℕ) → after_steps others from ≡ to → (others ≤ 255) ⊎ (255 < others) → to - from ≤ others
    fewer others leads (inl few) = near others leads (where_steps others from (omega arith) few)
        (cases_lt 255 (from + others))
    fewer others leads (inr many) = omega arith

pub distance_around : (from to : ℕ) → from ≤ 255 → 0 < to → to ≤ from → IsDistance from to (255 - (from - to))
distance_around from to top low below = record {
  some = omega arith;
  leads = omega (arith, (where_steps (255 - (from - to)) from (omega arith) (omega arith)).around);
  least = λ others some leads. fewer others some leads (cases others);
}
  where
    cases : (n : ℕ) → (n ≤ 255) ⊎ (255 < n)
    cases n = grind arith

    near : (others : ℕ) → 1 ≤ others → after_steps others from ≡ to → Where others from
        → (255 < from + others) ⊎ (from + others ≤ 255) →
        255 - (from - to) ≤ others
    near others some leads at (inl far) = let e : after_steps others from + 255 ≡ from + others =
        at.around far in omega arith
    near others some leads at (inr close) = let e : after_steps others from ≡ from + others =
        at.on close in absurd (omega arith)

    fewer : (others : ℕ) → 1 ≤ others → after_steps others from ≡ to → (others ≤ 255)
        ⊎ (255 < others) → 255 - (from - to) ≤ others
    fewer others some leads (inl few) =
        near others some leads (where_steps others from (omega arith) few) (cases_lt 255 (from + others))
    fewer others some leads (inr many) = omega arith

-- a distance decides how many steps suffice
pub within_distance : (most from to steps : ℕ) → IsDistance from to steps
    → nat_le steps most ≡ is_within_steps most from to
within_distance most from to steps d = by (is_within_steps most from to) refl
  where
    by : (b : Bool) → is_within_steps most from to ≡ b → nat_le steps most ≡ b
    by true e = let some = within_some most from to e in
        le-leb steps most (omega (arith, d.least some.0 some.1 some.3, some.2))
    by false e = false_from_ne_true (nat_le steps most)
        (λ few. absurd (apart (some_within most from to steps d.some (leb-true steps most few) d.leads)))
      where
        apart : is_within_steps most from to ≡ true → ⊥
        apart t = cc (e, t)

pub within_nowhere : (most from to : ℕ) → IsUnreachable from to → false ≡ is_within_steps most from to
within_nowhere most from to none =
    sym (false_from_ne_true (is_within_steps most from to)
    (λ e. let some = within_some most from to e in none some.0 some.1 some.3))
