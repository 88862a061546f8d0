-- What a command takes of a configuration that describes one switch on a side or several.
use Rattle.std.specs.Prelude.{ℕ, ◌≡◌, ◌⊎◌, Bool, true, List, Option, Some}
use Rattle.std.specs.Prelude.{option_map}
use Rattle.afdx_config.specs.declared.describing.Described.{Described}
use Rattle.afdx_config.specs.declared.describing.Described.TheVariants.{One, Several}
use Rattle.afdx_admit.specs.Cascade.{cascade_lines}
use Rattle.afdx_admit.specs.Lines.{lines}
use Rattle.afdx_frame.specs.Lines.{first_false}
use Rattle.afdx_input_lines.specs.declared.watched.Watched.{Watched}
use Rattle.afdx_command_tables.specs.Checking.{IsAdmittedFile, IsRead}
use Rattle.afdx_command_tables.specs.Refusals.{admit_line, admit_line_at}
use Rattle.afdx_command_tables.specs.Refusals.{IsToldRefused, RefusesFile, WantsMemory}
use Rattle.afdx_command_tables.specs.declared.taking.Taken.{Taken}
use Rattle.afdx_command_tables.specs.declared.taking.Taken.TheVariants.{OneAdmitted, OneUnasked}
use Rattle.afdx_command_tables.specs.declared.taking.Taken.TheVariants.{SeveralAdmitted, SeveralUnasked}

-- what it is, admitted or not
abbrev pub described_of : Taken → Described
described_of (OneAdmitted tables) = One tables
described_of (OneUnasked tables) = One tables
described_of (SeveralAdmitted switches) = Several switches
described_of (SeveralUnasked switches) = Several switches

-- what is told of the first line of admission that is false, if one is
abbrev pub denial_of : Described → Option (List ℕ)
denial_of (One t) = option_map (admit_line t) (first_false (lines t))
denial_of (Several switches) =
    option_map (admit_line_at switches) (first_false (cascade_lines switches))

-- what an error output is told
module _ {E : Type 0} (error_bytes : E → Option (List ℕ)) (old new : Watched E) where
  -- what a file describes is not admitted: with status 1, the first line that is false
  pub record IsToldDenied (d : Described) (status : ℕ) : Type 0 where
    pub denied : IsAdmittedFile d → ⊥
    pub line : List ℕ
    pub first : denial_of d ≡ Some line
    pub told : IsToldRefused error_bytes old new status line

  -- the file has no fault, and what it describes is not admitted
  pub record RefusesDescribed (config : List ℕ) (status : ℕ) : Type 0 where
    pub described : Described
    pub read : IsRead config described
    pub told : IsToldDenied described status

-- what a file describes isn't read, and the error output is told why: the configuration has a
-- fault, or memory was refused
abbrev pub IsUnread : {E : Type 0} → (E → Option (List ℕ)) → (old_errors new_errors : Watched E) →
    List ℕ → ℕ → Type 0
IsUnread error_bytes old_errors new_errors config status =
    RefusesFile error_bytes old_errors new_errors config status
    ⊎ WantsMemory error_bytes old_errors new_errors status

-- nothing is taken, and the error output is told why: the configuration has a fault, or what it
-- describes is not admitted and that is asked for, or memory was refused
abbrev pub IsNotTaken : {E : Type 0} → (E → Option (List ℕ)) → List ℕ → Bool →
    (old_errors new_errors : Watched E) → ℕ → Type 0
IsNotTaken error_bytes config admission old_errors new_errors status =
    RefusesFile error_bytes old_errors new_errors config status
    ⊎ ((admission ≡ true) × RefusesDescribed error_bytes old_errors new_errors config status)
    ⊎ WantsMemory error_bytes old_errors new_errors status
