-- Two bounds of what a switch's account lacks, where its clock and the stamps may be off.
use Rattle.std.specs.Prelude.{ℕ, ◌+◌, ◌*◌, ◌-◌, min, max, Bool, nat_le, Option, Some, None}
use Rattle.afdx_frame.specs.Regulation.{Regulation, bag, jitter}
use Rattle.afdx_conform.specs.Leeway.{Leeway, account_slip}
pub use Rattle.afdx_conform.specs.declared.levels.Levels.{Levels}

-- drift is told in millionths; the unit of a level is a millionth of a byte times a nanosecond
abbrev pub parts : ℕ
parts = 1000000

-- in this order
abbrev pub levels_with : ℕ → ℕ → Levels
levels_with lo hi = record { lo = lo; hi = hi }

module _ (link : Regulation) (by : Leeway) where
  -- by how much an account is filled in a ns of the recorder's clock, at most and at least
  abbrev pub fastest : ℕ
  fastest = link.smax * (parts + by.drift)

  abbrev pub slowest : ℕ
  slowest = link.smax * (parts - by.drift)

  -- what an empty account lacks
  abbrev pub full : ℕ
  full = parts * (link.smax * (bag link + jitter link))

  -- what a frame of this charge takes
  abbrev pub cost : ℕ → ℕ
  cost charge = parts * (bag link * charge)

  -- by how much more or less than stamps say it may be filled between two moments at which it is
  -- asked
  abbrev pub fast_slip : ℕ
  fast_slip = fastest * account_slip by

  abbrev pub slow_slip : ℕ
  slow_slip = slowest * account_slip by

  -- at first: after a reset the account is full, else nothing is known of it
  abbrev pub first_levels : Option ℕ → Levels
  first_levels None = levels_with 0 0
  first_levels (Some start) = levels_with 0 (full + slow_slip)

  -- so many ns later
  abbrev pub later : ℕ → Levels → Levels
  later ns levels = levels_with (levels.lo - fastest * ns) (levels.hi - slowest * ns)

  -- once a frame was accepted: it had room
  abbrev pub charged : ℕ → Levels → Levels
  charged charge levels = levels_with (levels.lo + cost charge)
      (min (max levels.hi slow_slip + cost charge) (full + slow_slip))

  -- once one was refused: it had none
  abbrev pub refused : ℕ → Levels → Levels
  refused charge levels = levels_with (max levels.lo (full + 1 - cost charge)) levels.hi

  -- a frame may have room
  abbrev pub may_pass : ℕ → Levels → Bool
  may_pass charge levels = nat_le (levels.lo + cost charge) (full + fast_slip)

  -- it has room
  abbrev pub has_to_pass : ℕ → Levels → Bool
  has_to_pass charge levels = nat_le (levels.hi + cost charge) full
