-- How a command refuses what is not admitted.
use Rattle.std.proofs.Common.{◌≡◌, ℕ, List, Option, Some, subst, ap}
use Rattle.std.specs.Prelude.{option_map}
use Rattle.afdx_config.specs.Admission.{IsAdmitted}
use Rattle.afdx_config.specs.Rows.{Rows}
use Rattle.afdx_config.specs.Switches.{NamedRows}
use Rattle.afdx_config.specs.declared.describing.Described.TheVariants.{One, Several}
use Rattle.afdx_admit.specs.Cascade.{IsCascadeAdmitted, cascade_lines}
use Rattle.afdx_admit.specs.Lines.{first_false, lines}
use Rattle.afdx_admit.specs.declared.cascade_fault.CascadeFault.{CascadeFault}
use Rattle.afdx_admit.specs.declared.fault.AdmitFault.{AdmitFault}
use Rattle.afdx_input_lines.specs.declared.watched.Watched.{Watched}
use Rattle.afdx_command_tables.specs.Refusals.{admit_line, admit_line_at, IsToldRefused}
use Rattle.afdx_command_tables.specs.Taking.{IsToldDenied}

module _ {E : Type 0} (bytes : E → Option (List ℕ)) (old new : Watched E) (status : ℕ) where
  -- tables were handed back with the first line that is false
  pub tables-denied : (t back : Rows) (fault : AdmitFault) → back ≡ t → (IsAdmitted t → ⊥)
      → first_false (lines t) ≡ Some fault → IsToldRefused bytes old new status (admit_line back fault)
      → IsToldDenied bytes old new (One t) status
  tables-denied t back fault same denied first refused = record {
    denied = denied;
    line = admit_line t fault;
    first = ap (option_map (admit_line t)) first;
    told = subst (λ (x : Rows). IsToldRefused bytes old new status (admit_line x fault)) same refused;
  }

  -- and switches
  pub switches-denied : (switches back : List NamedRows) (fault : CascadeFault) → back ≡ switches
      → (IsCascadeAdmitted switches → ⊥) → first_false (cascade_lines switches) ≡ Some fault
      → IsToldRefused bytes old new status (admit_line_at back fault)
      → IsToldDenied bytes old new (Several switches) status
  switches-denied switches back fault same denied first refused = record {
    denied = denied;
    line = admit_line_at switches fault;
    first = ap (option_map (admit_line_at switches)) first;
    told = subst (λ (x : List NamedRows). IsToldRefused bytes old new status (admit_line_at x fault)) same refused;
  }
