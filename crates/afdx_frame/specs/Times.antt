-- The times of lists, in ns.
use Rattle.std.specs.Prelude.{ℕ, ◌^◌}

-- the latest time that a line of a list may have
abbrev pub latest_listed : ℕ
latest_listed = 10 ^ 15
