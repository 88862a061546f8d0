-- The ports of a switch, which have the numbers from 1 on.
use Rattle.std.specs.Prelude.{ℕ}

abbrev pub last_port : ℕ
last_port = 24
