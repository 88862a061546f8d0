-- What the code keeps of the numbers of a side's frames.
use Rattle.std.specs.Prelude.{◌≡◌, ℕ, ◌+◌, Bool, nat_eq, if◌then◌else◌, Option, Some, None}
use Rattle.std.specs.Prelude.{List, [], ◌∷◌, get_or}
use Rattle.afdx_receive.specs.Steps.{is_within_steps}
use Rattle.afdx_lawful.specs.Alone.{number_in}
use Rattle.afdx_lawful.specs.Partners.{most_steps}
use Rattle.afdx_lawful.specs.Sources.{Came}
use Rattle.afdx_lawful.specs.declared.last.LastCame.{LastCame}

-- when the last one of these whole frames came that has this number
unfoldable pub last_time : ℕ → List Came → Option ℕ
last_time number [] = None
last_time number (x ∷ past) =
    if nat_eq (number_in x) number then Some x.time else last_time number past

-- the moment behind it, or 0
abbrev pub behind : Option ℕ → ℕ
behind None = 0
behind (Some time) = time + 1

-- these whole frames of the side came
abbrev pub AreLast : List Came → LastCame → Type 0
AreLast xs last = (number : ℕ) → get_or last.behind number 0 ≡ behind (last_time number xs)

-- the second number stands so few steps behind the first, or before it
abbrev pub stands_so : Bool → ℕ → ℕ → Bool
stands_so is_later number other =
    if is_later then is_within_steps most_steps number other
    else is_within_steps most_steps other number
