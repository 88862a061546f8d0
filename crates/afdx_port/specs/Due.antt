-- When a turn is given.
use Rattle.std.specs.Prelude.{ℕ, ◌+◌, ◌*◌, ◌<◌, ◌≤◌, if◌then◌else◌}
use Rattle.afdx_port.specs.declared.left.Due.{Due}

-- the time from which on a turn is given: a slot when it ends, a drop once its moment is past
abbrev pub given_at : Due → ℕ
given_at d = d.time + (if d.too_old then 1 else 0)

-- the turn is given by t
abbrev pub IsBy : ℕ → Due → Type 0
IsBy t d = given_at d ≤ t

-- the turn is given after t
abbrev pub IsAfter : ℕ → Due → Type 0
IsAfter t d = t < given_at d

-- turns of several ports go by time, and at one time slots before drops
abbrev pub order_of : Due → ℕ
order_of d = 2 * d.time + (if d.too_old then 1 else 0)
