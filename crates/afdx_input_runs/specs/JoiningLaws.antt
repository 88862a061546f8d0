-- Laws of the frames of two lists as one.
use Rattle.std.specs.Prelude.{ℕ, ◌≡◌, ◌≤◌, ◌<◌, List, [], ◌∷◌, ◌++◌, reverse, None}
use Rattle.afdx_police.specs.Arrival.{Arrival}
use Rattle.afdx_input_lines.specs.declared.role.Role.{Role}
use Rattle.afdx_input_lines.specs.declared.role.Role.TheVariants.{Came, Left}
use Rattle.afdx_input_runs.specs.Joining.{Coming, Frame, IsListed, joined}

-- ---- each list is told

abbrev pub with_one : (wanted role : Role) → Arrival → List Arrival → List Arrival
with_one Came Came x past = x ∷ past
with_one Left Left x past = x ∷ past
with_one _ _ x past = past

-- those of a role among these frames
unfoldable pub of_role : Role → List Frame → List Arrival
of_role role [] = []
of_role role (x ∷ past) = with_one role x.role x.arrival (of_role role past)

-- what comes of the list of a role
abbrev pub coming_of : Role → (came left : Coming) → Coming
coming_of Came came left = came
coming_of Left came left = left

-- the frames of a role are the first of its list; and where there is no fault, all
abbrev pub EachListIsTold : Type 0
EachListIsTold = (role : Role) (came left : Coming) →
    (later : List Arrival)
    × (reverse (coming_of role came left).next ≡ later ++ of_role role (joined came left).items)
    × ((joined came left).fault ≡ None → later ≡ [])

-- ---- they are in order

-- a frame of this role and time may stand in front of one of that
abbrev pub MayPrecede : Role → ℕ → Role → ℕ → Type 0
MayPrecede Left s Came t = s < t
MayPrecede _ s _ t = s ≤ t

abbrev pub IsBehind : Frame → List Frame → Type 0
IsBehind x [] = Unit {0}
IsBehind x (y ∷ past) = MayPrecede y.role y.arrival.time x.role x.arrival.time

-- no frame has a lesser time than one in front of it; and at one time those that came in are first
abbrev pub AreInOrder : List Frame → Type 0
AreInOrder [] = Unit {0}
AreInOrder (x ∷ past) = IsBehind x past × AreInOrder past

abbrev pub FramesAreInOrder : Type 0
FramesAreInOrder = (bytes_came bytes_left : List ℕ) (came left : Coming) →
    IsListed Came bytes_came came → IsListed Left bytes_left left →
    AreInOrder (joined came left).items
