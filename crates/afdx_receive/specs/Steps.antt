-- How many steps lead from one sequence number to another (ARINC 664 Part 7). A step leads from 0
-- to 1, from n to n + 1, from 255 to 1, and none to 0.
use Rattle.std.specs.Prelude.{◌≡◌, ℕ, zero, suc, ◌≤◌, Bool, false, ◌||◌, nat_eq}
use Rattle.afdx_config.specs.Numbers.{after_steps}

-- whether one to `most` steps lead from one number to another
unfoldable pub is_within_steps : ℕ → ℕ → ℕ → Bool
is_within_steps zero from to = false
is_within_steps (suc most) from to =
    is_within_steps most from to || nat_eq (after_steps (suc most) from) to

-- this many steps, at least one, lead from one number to another, and no fewer do
pub record IsDistance (from to steps : ℕ) : Type 0 where
  pub some : 1 ≤ steps
  pub leads : after_steps steps from ≡ to
  pub least : (others : ℕ) → 1 ≤ others → after_steps others from ≡ to → steps ≤ others

-- no steps lead from one number to another
abbrev pub IsUnreachable : ℕ → ℕ → Type 0
IsUnreachable from to = (steps : ℕ) → 1 ≤ steps → after_steps steps from ≡ to → ⊥
