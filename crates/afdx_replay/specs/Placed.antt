-- A command that takes options of recordings: the places that they say are some of the
-- configuration, or it isn't run.
use Rattle.std.specs.Prelude.{ℕ, ◌≡◌, ◌⊎◌, Bool, true, List, Option}
use Rattle.afdx_command_tables.specs.Checking.{IsRead}
use Rattle.afdx_command_tables.specs.Commands.{IsInputStatus}
use Rattle.afdx_command_tables.specs.Refusals.{no_place_line}
use Rattle.afdx_command_tables.specs.Taking.{IsToldDenied, IsUnread}
use Rattle.afdx_config.specs.declared.describing.Described.{Described}
use Rattle.afdx_input_lines.specs.declared.watched.Watched.{Watched}
use Rattle.afdx_text.specs.Telling.{Tells}

-- an exit status of a command over an input, or that of wrong words
abbrev pub IsPlacedStatus : ℕ → Type 0
IsPlacedStatus status = IsInputStatus status ⊎ (status ≡ 2)

module _ {P : Type 0} (Placed : Described → P → P → Type 0) (options : P) where
  -- these are the options with their places in what a configuration describes
  pub record ArePlacedIn (d : Described) (so : P → Type 0) : Type 0 where
    pub placed : P
    pub are_placed : Placed d options placed
    pub so_is : so placed

  module _ (Misplaced : Described → P → Type 0) {E : Type 0} (error_bytes : E → Option (List ℕ))
      (old new : Watched E) (config : List ℕ) where
    -- the configuration has no fault, but not a place of the options: that is told, with status 2
    pub record RefusesPlace (status : ℕ) : Type 0 where
      pub described : Described
      pub read : IsRead config described
      pub misplaced : Misplaced described options
      pub status_is : status ≡ 2
      pub told : Tells error_bytes old new no_place_line

    -- it has all places, but what it describes is not admitted
    pub record RefusesPlaced (status : ℕ) : Type 0 where
      pub described : Described
      pub read : IsRead config described
      pub placed : P
      pub are_placed : Placed described options placed
      pub denied : IsToldDenied error_bytes old new described status

    -- nothing is run, and the error output is told why: the configuration has a fault, or not a
    -- place of the options, or memory was refused
    abbrev pub IsUnplaced : ℕ → Type 0
    IsUnplaced status = IsUnread error_bytes old new config status ⊎ RefusesPlace status

    -- or what it describes is not admitted, and that is asked for
    abbrev pub IsNotRun : (admission : Bool) → ℕ → Type 0
    IsNotRun admission status =
        IsUnplaced status ⊎ ((admission ≡ true) × RefusesPlaced status)
