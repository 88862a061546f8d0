-- Sequence numbers (ARINC 664 Part 7): 0 after a reset of the sender, then 1 to 255, and 255 is
-- followed by 1.
use Rattle.std.specs.Prelude.{ℕ, zero, suc, ◌+◌, nat_eq, if◌then◌else◌}

-- one step leads from a number to the next
abbrev pub next_number : ℕ → ℕ
next_number n = if nat_eq n 255 then 1 else n + 1

-- the number to which this many steps lead
unfoldable pub after_steps : ℕ → ℕ → ℕ
after_steps zero from = from
after_steps (suc steps) from = next_number (after_steps steps from)
