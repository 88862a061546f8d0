-- What the code keeps of a link to move its levels.
use Rattle.std.specs.Prelude.{◌≡◌, ℕ, ◌+◌, ◌*◌, ◌≤◌}
use Rattle.afdx_frame.specs.Regulation.{Regulation, bag}
use Rattle.afdx_conform.specs.Leeway.{Leeway}
use Rattle.afdx_conform.specs.Levels.{Levels, parts, fastest, slowest, full, fast_slip, slow_slip}
use Rattle.afdx_conform.specs.declared.levels.Rates.{Rates}

-- these are a link's rates with this leeway
pub record AreRates (link : Regulation) (by : Leeway) (rates : Rates) : Type 0 where
  pub fastest : rates.fastest ≡ fastest link by
  pub slowest : rates.slowest ≡ slowest link by
  pub full : rates.full ≡ full link by
  pub fast_slip : rates.fast_slip ≡ fast_slip link by
  pub slow_slip : rates.slow_slip ≡ slow_slip link by
  pub byte_cost : rates.byte_cost ≡ parts * bag link

-- levels that an account can have
pub record AreLevels (rates : Rates) (levels : Levels) : Type 0 where
  pub lo : levels.lo ≤ rates.full + rates.fast_slip
  pub hi : levels.hi ≤ rates.full + rates.slow_slip

-- the bounds are no further apart than the clocks and stamps allow
abbrev pub AreNear : Rates → Levels → Type 0
AreNear rates levels = levels.lo ≤ levels.hi + rates.fast_slip

-- a frame of this charge has to pass at these levels
abbrev pub HasToPass : Rates → Levels → ℕ → Type 0
HasToPass rates levels charge = levels.hi + rates.byte_cost * charge ≤ rates.full

-- a frame of this charge may have room at these levels
abbrev pub HasRoom : Rates → Levels → ℕ → Type 0
HasRoom rates levels charge = levels.lo + rates.byte_cost * charge ≤ rates.full + rates.fast_slip
