-- What is found of a whole frame by those before it on its own side.
use Rattle.std.specs.Prelude.{ℕ, ◌-◌, Bool, true, false, nat_eq, nat_le, if◌then◌else◌, Option, Some, None}
use Rattle.std.specs.Prelude.{List, [], ◌∷◌, ◌++◌, option_map, option_to_list}
use Rattle.std.specs.Int.{div_ceil}
use Rattle.afdx_config.specs.Numbers.{next_number}
use Rattle.afdx_frame.specs.Parts.{number_of_frame}
use Rattle.afdx_police.specs.Spacing.{level_at}
use Rattle.afdx_lawful.specs.Flaws.{flaw_of}
use Rattle.afdx_lawful.specs.Sources.{Came, Source, cost, fast, room}
use Rattle.afdx_lawful.specs.declared.finding.SenderFinding.{SenderFinding}
use Rattle.afdx_lawful.specs.declared.finding.SenderFinding.TheVariants.{Unlawful, Number, Soon}

-- the sequence number of a whole frame
unfoldable pub number_in : Came → ℕ
number_in x = number_of_frame x.bytes

-- the list is empty
abbrev pub is_empty : {X : Type 0} → List X → Bool
is_empty [] = true
is_empty (x ∷ xs) = false

module _ (s : Source) where
  -- the number that stands next, if one is known: the first one is 0, but where the recordings
  -- began later
  abbrev pub first_number : Option ℕ → Option ℕ
  first_number None = Some 0
  first_number (Some start) = None

  abbrev pub number_after : List Came → Option ℕ
  number_after [] = first_number s.by.start
  number_after (x ∷ past) = Some (next_number (number_in x))

  abbrev pub other_number : Came → Option ℕ → List SenderFinding
  other_number x None = []
  other_number x (Some next) =
      if nat_eq (number_in x) next then [] else Number x.line next ∷ []

  abbrev pub level : List ℕ → ℕ → ℕ
  level times time = level_at (cost s) (fast s) times time

  -- a frame has room at this time after those of these times, which had it
  abbrev pub has_room : List ℕ → ℕ → Bool
  has_room times time = nat_le (level times time) (room s)

  abbrev pub with_room : List ℕ → ℕ → List ℕ
  with_room times time = if has_room times time then time ∷ times else times

  -- the times of those that had room: a frame that came too soon raises no level
  unfoldable pub times_with_room : List Came → List ℕ
  times_with_room [] = []
  times_with_room (x ∷ past) = with_room (times_with_room past) x.time

  abbrev pub too_soon : Came → List ℕ → List SenderFinding
  too_soon x times =
      if has_room times x.time then []
      else Soon x.line (div_ceil (level times x.time - room s) (fast s)) ∷ []

  abbrev pub flawed : Came → List SenderFinding
  flawed x = option_to_list (option_map (Unlawful x.line) (flaw_of s x))

  -- what is found of it, in its order, after these whole frames of its side
  unfoldable pub found_alone : List Came → Came → List SenderFinding
  found_alone past x =
      flawed x ++ (other_number x (number_after past) ++ too_soon x (times_with_room past))
