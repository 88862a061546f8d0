-- The account of a regulated link, in units of which `byte_units` are a byte.
use Rattle.std.specs.Prelude.{ℕ, ◌+◌, ◌-◌, ◌*◌, max, List, [], ◌∷◌}
use Rattle.afdx_frame.specs.Regulation.{Regulation, byte_units, fill_rate, cap}
use Rattle.afdx_police.specs.Rule.{Rule}
use Rattle.afdx_police.specs.Window.{Charged}

-- an account: its link's rule, its level in units, and the time of that level
pub record Account : Type 0 where
  pub rule : Rule
  pub level : ℕ
  pub time : ℕ

-- the most that a window which begins with one of these was charged beyond its fill, if frames of
-- `taken` bytes came after them
unfoldable pub overdrawn : Regulation → List Charged → ℕ → ℕ → ℕ
overdrawn link [] taken time = 0
overdrawn link (first ∷ before) taken time =
    max (byte_units * (taken + first.charge) - fill_rate link * (time - first.time))
    (overdrawn link before (taken + first.charge) time)

-- what is missing in the account at `time`
abbrev pub missing : Regulation → List Charged → ℕ → ℕ
missing link accepted time = overdrawn link accepted 0 time

-- the level of the account at `time`
abbrev pub level : Regulation → List Charged → ℕ → ℕ
level link accepted time = cap link - missing link accepted time
