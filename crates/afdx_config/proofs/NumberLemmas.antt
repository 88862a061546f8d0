-- The numbers of a stream are bytes.
use Rattle.std.proofs.Common.{ℕ, zero, suc, ◌<◌, ◌≤◌, ◌⊎◌, inl, inr, arith}
use Rattle.std.proofs.lemmas.Bool.{cases_lt}
use Rattle.afdx_config.specs.Numbers.{next_number, after_steps}

next-low : (n : ℕ) → n ≤ 255 → next_number n ≤ 255
next-low n low = by (cases_lt n 255)
  where
    by : (n < 255) ⊎ (255 ≤ n) → next_number n ≤ 255
    by (inl below) = grind arith
    by (inr at) = grind arith

pub steps_low : (k from : ℕ) → from ≤ 255 → after_steps k from ≤ 255
unfolding after_steps
steps_low zero from low = low
steps_low (suc k) from low = next-low (after_steps k from) (steps_low k from low)
