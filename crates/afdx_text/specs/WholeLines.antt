-- Lines that go to a device whole, in however many pieces they come.
use Rattle.std.specs.Prelude.{ℕ, ◌≡◌, ◌≤◌, ◌+◌, ◌==◌, Bool, List, Option, Some, length, codes}
use Rattle.std.specs.List.{ends_with}
use Rattle.std.specs.Io.KnownBytes.{append_known}
use Rattle.afdx_text.specs.declared.whole_lines.WholeLines.{WholeLines}

-- the device to which lines are handed
abbrev pub device_under : {W : Type 0} → WholeLines W → W
device_under lines = lines.device

-- the beginning of a line, which is held
abbrev pub held_in : {W : Type 0} → WholeLines W → List ℕ
held_in lines = lines.held.items

-- what was handed to the device, where that is known, and then what is held
abbrev pub given : {W : Type 0} → (W → Option (List ℕ)) → WholeLines W → Option (List ℕ)
given contents lines = append_known (contents (device_under lines)) (held_in lines)

-- there is room for a piece behind what is held
abbrev pub Fits : List ℕ → List ℕ → Type 0
Fits held piece = length held + length piece ≤ 128

-- a piece ends with a line feed
abbrev pub ends_line : List ℕ → Bool
ends_line piece = ends_with (λ a b. a == b) piece (codes "\n")

-- a text was offered to a device whole, in one write. If that took all of it nothing else was asked
pub record OffersWhole {W : Type 0} (Took : W → W → List ℕ → Option ℕ → Type 0)
    (old new : W) (text : List ℕ) : Type 0 where
  pub after : W
  pub count : Option ℕ
  pub once : Took old after text count
  pub only : count ≡ Some (length text) → new ≡ after
