-- How great the numbers of a link's levels can be, and those of a state.
use Rattle.std.specs.Prelude.{ℕ, ◌+◌, ◌≤◌, ◌<◌}
use Rattle.afdx_frame.specs.Lengths.{greatest_frame}
use Rattle.afdx_frame.specs.Regulation.{wire_of}

-- the greatest frame on the wire, in bytes
abbrev pub most_charge : ℕ
most_charge = wire_of greatest_frame

-- more than an account may seem to lack, and the most that a byte takes of it, in millionths of a
-- byte times a nanosecond
abbrev pub most_level : ℕ
most_level = 600000000000000000

abbrev pub most_byte : ℕ
most_byte = 128000000000000

-- more frames and arrivals than any state has
abbrev pub most_held : ℕ
most_held = 0x100000000000000

-- so great are those of a link: what an empty account lacks, by how much more, and less, than
-- stamps say it may be filled, and what a byte takes
pub record AreInRange (full fast_slip slow_slip byte_cost : ℕ) : Type 0 where
  pub level : full + fast_slip ≤ most_level
  pub slips : slow_slip ≤ fast_slip
  pub byte : byte_cost ≤ most_byte
  pub some : 0 < byte_cost
