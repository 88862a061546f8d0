-- How a command refuses a configuration or its tables.
use Rattle.std.proofs.Common.{◌≡◌, ◌≢◌, ℕ, List, Option, ◌⊎◌, inl, inr, subst, refl, arith}
use Rattle.afdx_config.specs.declared.fault.ConfigFault.{ConfigFault}
use Rattle.afdx_config.specs.declared.fault.ConfigFault.TheVariants.{NotToml, BadProfile, Missing}
use Rattle.afdx_config.specs.declared.fault.ConfigFault.TheVariants.{WrongKind, UnknownKey}
use Rattle.afdx_config.specs.declared.fault.ConfigFault.TheVariants.{OutOfRange, Twice}
use Rattle.afdx_config.specs.declared.fault.ConfigFault.TheVariants.{NoSuchSystem, Memory}
use Rattle.afdx_input_lines.specs.declared.watched.Watched.{Watched}
use Rattle.afdx_config.specs.Files.{IsFileFault}
use Rattle.afdx_config.specs.declared.file_fault.FileFault.{FileFault}
use Rattle.afdx_command_tables.specs.Refusals.{file_line, RefusesFile}
use Rattle.afdx_command_tables.specs.Refusals.{IsToldRefused, WantsMemory}

-- memory was refused, or there is another fault
memory_or : (fault : ConfigFault) → (fault ≡ Memory) ⊎ (fault ≡ Memory → ⊥)
memory_or NotToml = inr (λ e. cc e)
memory_or BadProfile = inr (λ e. cc e)
memory_or (Missing p) = inr (λ e. cc e)
memory_or (WrongKind p) = inr (λ e. cc e)
memory_or (UnknownKey p) = inr (λ e. cc e)
memory_or (OutOfRange p) = inr (λ e. cc e)
memory_or (Twice p) = inr (λ e. cc e)
memory_or (NoSuchSystem p) = inr (λ e. cc e)
memory_or Memory = inl refl

-- a configuration was refused: it has the fault that is told, or memory was refused
module _ {E : Type 0} (bytes : E → Option (List ℕ)) (old new : Watched E) (config : List ℕ)
    (status : ℕ) where
  pub file-refused : (f : FileFault)
      → ((f.fault ≡ Memory → ⊥) → IsToldRefused bytes old new status (file_line f))
      → (f.fault ≡ Memory → WantsMemory bytes old new status)
      → (f.fault ≢ Memory → IsFileFault config f) →
      RefusesFile bytes old new config status ⊎ WantsMemory bytes old new status
  file-refused f told memory faulty = elim (memory_or f.fault) [
    | inl is ↦ inr (memory is)
    | inr other ↦ inl (f, faulty other, told other)
  ]

-- with status 1 it has that fault
pub file-faulty : {E : Type 0} (bytes : E → Option (List ℕ)) (old new : Watched E) (config : List ℕ) (status : ℕ) →
    RefusesFile bytes old new config status ⊎ WantsMemory bytes old new status → status ≡ 1
    → RefusesFile bytes old new config 1
file-faulty bytes old new config status (inl refuses) is = subst (RefusesFile bytes old new config) is refuses
file-faulty bytes old new config status (inr wants) is =
    let four = wants.status_is in
    absurd (omega (arith, four, is))
