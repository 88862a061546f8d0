-- What the command `check` does with a file, which describes one switch on a side or several.
use Rattle.std.specs.Prelude.{ℕ, ◌≡◌, ◌⊎◌, List, Option, true, false}
use Rattle.std.specs.Io.KnownBytes.{Appends}
use Rattle.afdx_config.specs.Admission.{IsAdmitted}
use Rattle.afdx_config.specs.Files.{Describes, IsOneSpelled, IsLawfulFile}
use Rattle.afdx_config.specs.declared.describing.Described.{Described}
use Rattle.afdx_config.specs.declared.describing.Described.TheVariants.{One, Several}
use Rattle.afdx_admit.specs.Cascade.{IsCascadeAdmitted}
use Rattle.afdx_input_lines.specs.Calls.{AppendsFront}
use Rattle.afdx_input_lines.specs.declared.fault.RunFault.TheVariants as run
use Rattle.afdx_text.specs.Telling.{TellsFault}
use Rattle.afdx_input_lines.specs.declared.watched.Watched.{Watched}
use Rattle.afdx_input_lines.specs.Watching.{device_of, has_failed}
use Rattle.afdx_command_tables.specs.declared.check_tables.CheckOptions.{CheckOptions}
use Rattle.afdx_command_tables.specs.CheckText.{check_text_of}
use Rattle.afdx_command_tables.specs.CascadeText.{cascade_text_of}
use Rattle.afdx_command_tables.specs.Refusals.{RefusesFile, WantsMemory}

-- the text of one switch, or that of several
abbrev pub file_text_of : CheckOptions → Described → List ℕ
file_text_of options (One t) = check_text_of options t
file_text_of options (Several switches) = cascade_text_of options switches

abbrev pub file_text : Described → List ℕ
file_text d = file_text_of (record { all = false; margins = false }) d

abbrev pub IsAdmittedFile : Described → Type 0
IsAdmittedFile (One t) = IsAdmitted t
IsAdmittedFile (Several switches) = IsCascadeAdmitted switches

-- what these bytes describe, of which every rule of the format holds; of one switch these are the
-- tables that they spell
pub record IsRead (config : List ℕ) (d : Described) : Type 0 where
  pub described : Describes config d
  pub one : IsOneSpelled config d
  pub lawful : IsLawfulFile d

-- this text of what these bytes describe is written
pub record WritesCheck (text : Described → List ℕ) (config : List ℕ) (old new : Option (List ℕ))
    (d : Described) : Type 0 where
  pub read : IsRead config d
  pub written : Appends old new (text d)

-- a beginning of it is written
pub record BeginsCheck (text : Described → List ℕ) (config : List ℕ) (old new : Option (List ℕ))
    (d : Described) : Type 0 where
  pub read : IsRead config d
  pub written : AppendsFront old new (text d)

-- how the command ends, by what its output and its error output were and are
module _ {O E : Type 0} (text : Described → List ℕ) (bytes : O → Option (List ℕ))
    (error_bytes : E → Option (List ℕ)) (config : List ℕ) (old new : Watched O × Watched E) where
  -- the configuration is read, what it describes is admitted, and that is written
  pub record IsChecked : Type 0 where
    pub described : Described
    pub writes : WritesCheck text config (bytes (device_of old.0)) (bytes (device_of new.0))
        described
    pub admitted : IsAdmittedFile described
    pub told : new.1 ≡ old.1

  -- it is read, what it describes is not admitted, and that is written
  pub record IsDenied : Type 0 where
    pub described : Described
    pub writes : WritesCheck text config (bytes (device_of old.0)) (bytes (device_of new.0))
        described
    pub denied : IsAdmittedFile described → ⊥
    pub told : new.1 ≡ old.1

  -- it has a fault, and nothing is written
  pub record IsFaulty : Type 0 where
    pub refuses : RefusesFile error_bytes old.1 new.1 config 1
    pub written : new.0 ≡ old.0

  -- the output failed, and a beginning of the text is written
  pub record IsCut : Type 0 where
    pub failed : has_failed new.0 ≡ true
    pub described : Described
    pub begins : BeginsCheck text config (bytes (device_of old.0)) (bytes (device_of new.0))
        described
    pub told : TellsFault error_bytes old.1 new.1 run.Write

  -- memory was refused, and nothing is written
  pub record IsUnchecked : Type 0 where
    pub wants : WantsMemory error_bytes old.1 new.1 4
    pub written : new.0 ≡ old.0

  -- and by its exit status
  pub record Checks (status : ℕ) : Type 0 where
    pub statuses : (status ≡ 0) ⊎ (status ≡ 1) ⊎ (status ≡ 4)
    pub device : has_failed new.0 ≡ true → status ≡ 4
    pub checked : status ≡ 0 → IsChecked
    pub refused : status ≡ 1 → IsDenied ⊎ IsFaulty
    pub stopped : status ≡ 4 → IsCut ⊎ IsUnchecked
