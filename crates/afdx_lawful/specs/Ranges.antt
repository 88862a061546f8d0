-- How great the numbers can be that the code keeps of a source.
use Rattle.std.specs.Prelude.{ℕ, ◌≤◌, Option, None, Some}

-- how great they can be
pub record AreInRange (fast slow slip hold cost room : ℕ) : Type 0 where
  pub fast_least : 1000000 ≤ fast
  pub fast_most : fast ≤ 1001000
  pub slow_least : 999000 ≤ slow
  pub slow_most : slow ≤ 1000000
  pub slips : slip ≤ 2000000
  pub holds : hold ≤ 105000000
  pub costs : cost ≤ 128000000000000
  pub rooms : room ≤ 240000000000000

-- the greatest skew, and the greatest distance that can be given, in ns
abbrev pub most_apart : ℕ
most_apart = 100000000

-- a skew, and how long a byte lasts on all lines of a way
pub record IsWayInRange (skew byte_ns : ℕ) : Type 0 where
  pub skews : skew ≤ most_apart
  pub bytes : byte_ns ≤ 19200

-- the distance that is given, or 0
abbrev pub given_ns : Option ℕ → ℕ
given_ns None = 0
given_ns (Some ns) = ns
