-- By how much stamps, clocks and the inside of a switch may differ from what the rule says.
use Rattle.std.specs.Prelude.{ℕ, ◌+◌, Option}

-- a stamp may be off by `slack` ns, one of what left by `between` more, and a clock's rate by
-- `drift` millionths; a frame may take `inner` ns beyond its link's latency; its account may be
-- asked `asked` ns after it came; from `start` on all that came is known, or from the reset
pub record Leeway : Type 0 where
  pub slack : ℕ
  pub between : ℕ
  pub drift : ℕ
  pub inner : ℕ
  pub asked : ℕ
  pub start : Option ℕ

-- so much may a stamp of what left be off
abbrev pub left_slack : Leeway → ℕ
left_slack by = by.slack + by.between

-- and so much, together, one of what came and one of what left: the reach of such a pair
abbrev pub reach : Leeway → ℕ
reach by = by.slack + left_slack by

-- what came has one clock: by so much are two stamps of it off, and the moments at which the
-- account is asked then, however far apart the recorders are
abbrev pub account_slip : Leeway → ℕ
account_slip by = by.slack + by.slack + by.asked
