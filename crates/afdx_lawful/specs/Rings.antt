-- What the code keeps of the frames of a side that wait for their copies.
use Rattle.std.specs.Prelude.{◌≡◌, ℕ, ◌≤◌, Bool, false, nat_eq, Option, Some, None, List, length, map, filter_map, get_or}
use Rattle.std.specs.List.{position_or_len}
use Rattle.std.specs.Option.{is_some}
use Rattle.afdx_frame.specs.declared.link.Side.{Side}
use Rattle.afdx_lawful.specs.Partners.{Waiting}
use Rattle.afdx_lawful.specs.Sources.{came_with}
use Rattle.afdx_lawful.specs.declared.waits.Waits.{Waits}

-- as one that waits on this side
abbrev pub waiting_as : Side → Waits → Waiting
waiting_as side w =
    record { frame = came_with w.line w.time side w.bytes; is_quiet = w.is_quiet }

abbrev pub all_as : Side → List Waits → List Waiting
all_as side ws = map (waiting_as side) ws

abbrev pub has_number : ℕ → Waits → Bool
has_number number w = nat_eq w.number number

-- a slot holds one of this number
abbrev pub holds_number : ℕ → Option Waits → Bool
holds_number number None = false
holds_number number (Some w) = has_number number w

-- those that slots hold
abbrev pub held_in : List (Option Waits) → List Waits
held_in slots = filter_map (λ slot. slot) slots

-- Slots hold so many frames, the first of them at this place, or none at all; and of each number
-- none before its place.
pub record AreWaiting (slots : List (Option Waits)) (first : ℕ) (places : List ℕ) (count : ℕ)
    : Type 0 where
  pub oldest : first ≡ position_or_len is_some slots
  pub of_number : (number : ℕ) →
      get_or places number 0 ≤ position_or_len (holds_number number) slots
  pub many : count ≡ length (held_in slots)
