-- What a command tells that refuses a configuration or its tables.
use Rattle.std.specs.Prelude.{ℕ, ◌≡◌, List, [], ◌++◌, Option, codes, slice_get}
use Rattle.std.specs.Option.{option_map_or}
use Rattle.afdx_config.specs.FaultText as config_fault
use Rattle.afdx_config.specs.Rows.{Rows}
use Rattle.afdx_config.specs.Switches.{NamedRows}
use Rattle.afdx_config.specs.Files.{IsFileFault}
use Rattle.afdx_config.specs.declared.file_fault.FileFault.{FileFault}
use Rattle.afdx_admit.specs.FaultText as admit_fault
use Rattle.afdx_admit.specs.Known.{name_at, name_of}
use Rattle.afdx_admit.specs.declared.cascade_fault.CascadeFault.{CascadeFault}
use Rattle.afdx_admit.specs.declared.fault.AdmitFault.{AdmitFault}
use Rattle.afdx_input_lines.specs.declared.fault.RunFault.TheVariants as run
use Rattle.afdx_text.specs.Telling.{Tells, TellsFault}
use Rattle.afdx_input_lines.specs.declared.watched.Watched.{Watched}

-- the line of a fault of a configuration, of one switch or of several
abbrev pub file_line : FileFault → List ℕ
file_line fault = codes "config " ++ config_fault.file_fault_text fault ++ codes "\n"

-- the line of tables that are not admitted
abbrev pub admit_line : Rows → AdmitFault → List ℕ
admit_line t fault = codes "admit " ++ admit_fault.fault_text (name_of t fault) fault ++ codes "\n"

-- the line of switches that are not admitted
abbrev pub admit_line_there : CascadeFault → NamedRows → List ℕ
admit_line_there e s =
    codes "admit " ++ admit_fault.switch_fault_text s.name (name_at s.rows e.fault) e.fault
    ++ codes "\n"

abbrev pub admit_line_at : List NamedRows → CascadeFault → List ℕ
admit_line_at switches e =
    option_map_or (admit_line_there e) (slice_get switches e.switch.0) []

-- what is told where no system has the name
abbrev pub no_system_line : List ℕ
no_system_line = codes "words NoSuchSystem\n"

-- what is told where an option of a recording speaks of a place that the configuration hasn't
abbrev pub no_place_line : List ℕ
no_place_line = codes "words BadInterface\n"

-- what an error output is told
module _ {E : Type 0} (error_bytes : E → Option (List ℕ)) (old new : Watched E) where
  -- memory was refused: status 4, and its line
  pub record WantsMemory (status : ℕ) : Type 0 where
    pub status_is : status ≡ 4
    pub told : TellsFault error_bytes old new run.Memory

  -- this line with status 1
  pub record IsToldRefused (status : ℕ) (line : List ℕ) : Type 0 where
    pub status_is : status ≡ 1
    pub told : Tells error_bytes old new line

  -- the configuration has this fault
  abbrev pub RefusesFile : List ℕ → ℕ → Type 0
  RefusesFile config status = (fault : FileFault) × IsFileFault config fault
      × IsToldRefused status (file_line fault)
