-- Limits of a recording.
use Rattle.std.specs.Prelude.{ℕ}

-- the most numbers, and the most blocks
abbrev pub most_numbers : ℕ
most_numbers = 1000000000000000

-- the most interfaces of a section
abbrev pub most_interfaces : ℕ
most_interfaces = 4096
