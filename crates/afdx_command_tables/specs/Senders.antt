-- From which system a command sends, of a configuration that describes one switch on a side or
-- several.
use Rattle.std.specs.Prelude.{ℕ, ◌≡◌, ◌⊎◌, List, [], Option, Some, None, option_map}
use Rattle.std.specs.Prelude.{option_and_then, slice_get, string_bytes, IsSome}
use Rattle.afdx_config.specs.Rows.{Rows}
use Rattle.afdx_config.specs.Switches.{NamedRows, own_named, system_of}
use Rattle.afdx_config.specs.declared.describing.Described.{Described}
use Rattle.afdx_config.specs.declared.describing.Described.TheVariants.{One, Several}
use Rattle.afdx_text.specs.Telling.{Tells}
use Rattle.afdx_input_lines.specs.declared.watched.Watched.{Watched}
use Rattle.afdx_command_tables.specs.Checking.{IsAdmittedFile, IsRead}
use Rattle.afdx_command_tables.specs.Refusals.{no_system_line, RefusesFile, WantsMemory}
use Rattle.afdx_command_tables.specs.Taking.{IsToldDenied}
use Rattle.afdx_command_tables.specs.declared.sender.SenderTaken.{SenderTaken}

-- a system: the tables of its switch, its place there, and the name of the switch, which is empty
-- where the file describes one on a side
pub record SystemThere : Type 0 where
  pub tables : Rows
  pub system : ℕ
  pub switch : List ℕ

abbrev pub system_there : Rows → ℕ → (switch : List ℕ) → SystemThere
system_there t i switch = record { tables = t; system = i; switch = switch }

abbrev pub system_among : ℕ → NamedRows → SystemThere
system_among i s = system_there s.rows i s.name

-- the system of this name
abbrev pub sender_of : Described → (name : List ℕ) → Option SystemThere
sender_of (One t) name = option_map (λ i. system_there t i []) (own_named t name)
sender_of (Several switches) name =
    option_and_then (λ found. option_map (system_among found.1) (slice_get switches found.0))
    (system_of switches name)

abbrev pub sender_taken : SenderTaken → SystemThere
sender_taken taken = system_there taken.admitted taken.system.0 (string_bytes taken.switch)

-- it is the system of this name in what a configuration describes, all of which is admitted
pub record TakesSender (config name : List ℕ) (taken : SenderTaken) : Type 0 where
  pub described : Described
  pub read : IsRead config described
  pub stands : sender_of described name ≡ Some (sender_taken taken)
  pub admitted : IsAdmittedFile described

-- what an error output is told
module _ {E : Type 0} (error_bytes : E → Option (List ℕ)) (old new : Watched E) where
  -- of what a file describes: no system has this name, and status 2; or one has it, but not all is
  -- admitted; or memory was refused
  abbrev pub HasNoSender : Described → (name : List ℕ) → ℕ → Type 0
  HasNoSender d name status =
      ((sender_of d name ≡ None) × (status ≡ 2) × Tells error_bytes old new no_system_line)
      ⊎ (IsSome (sender_of d name) × IsToldDenied error_bytes old new d status)
      ⊎ WantsMemory error_bytes old new status

  -- the file has no fault, and no system has this name: that is told, with status 2
  pub record RefusesName (config name : List ℕ) (status : ℕ) : Type 0 where
    pub described : Described
    pub read : IsRead config described
    pub none : sender_of described name ≡ None
    pub status_is : status ≡ 2
    pub told : Tells error_bytes old new no_system_line

  -- it has none, and a system has this name, but what the file describes is not admitted
  pub record RefusesSender (config name : List ℕ) (status : ℕ) : Type 0 where
    pub described : Described
    pub read : IsRead config described
    pub named : IsSome (sender_of described name)
    pub told : IsToldDenied error_bytes old new described status

  -- there is nothing to send from, and the error output is told why: the configuration has a
  -- fault; or no system has the name; or one has it, and not all is admitted; or memory was refused
  abbrev pub IsNoSender : (config name : List ℕ) → ℕ → Type 0
  IsNoSender config name status =
      RefusesFile error_bytes old new config status
      ⊎ RefusesName config name status
      ⊎ RefusesSender config name status
      ⊎ WantsMemory error_bytes old new status
