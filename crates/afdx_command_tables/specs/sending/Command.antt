-- What the command `send` does, whatever its configuration describes.
use Rattle.std.specs.Prelude.{ℕ, ◌≡◌, Bool, List, Option, Some, Result, IfSome, slice_get}
use Rattle.afdx_command_tables.specs.Checking.{IsAdmittedFile, IsRead}
use Rattle.afdx_command_tables.specs.Commands.{EndsAs}
use Rattle.afdx_command_tables.specs.Senders.{SystemThere, sender_of}
use Rattle.afdx_command_tables.specs.declared.ending.Ended.{Ended}
use Rattle.afdx_command_tables.specs.declared.summary.Summary.{Summary}
use Rattle.afdx_config.specs.Rows.{SystemRow}
use Rattle.afdx_config.specs.declared.describing.Described.{Described}
use Rattle.afdx_input_lines.specs.Watching.{device_of}
use Rattle.afdx_input_lines.specs.declared.fault.RunFault.{RunFault}
use Rattle.afdx_input_lines.specs.declared.watched.Watched.{Watched}
use Rattle.afdx_command_tables.specs.sending.Sent.{source_of, Answers}

-- A list is sent from the system of this name in what the configuration describes, all of which is
-- admitted. Where the list's bytes are known, what is written is what goes with this answer.
pub record Sends (config name : List ℕ) (list rest old new : Option (List ℕ))
    (answer : Result Summary RunFault) : Type 0 where
  pub described : Described
  pub read : IsRead config described
  pub from : SystemThere
  pub named : sender_of described name ≡ Some from
  pub admitted : IsAdmittedFile described
  pub row : SystemRow
  pub stands : slice_get from.tables.systems from.system ≡ Some row
  pub answers : IfSome list (λ bytes.
      Answers (source_of from.switch from.tables from.system row) bytes rest old new answer)

-- The command ends as its run over the list answered: of an input that is then `rest`, with error
-- output `old_errors` that is then `new_errors`, and an output that held `old` and holds `new`.
abbrev pub EndsSending : {R E : Type 0} → (remaining : R → Option (List ℕ)) →
    (error_bytes : E → Option (List ℕ)) → (config name : List ℕ) → (input rest : Watched R) →
    (old_errors new_errors : Watched E) → (output_failed : Bool) → (old new : Option (List ℕ)) →
    Ended → Type 0
EndsSending remaining error_bytes config name input rest old_errors new_errors output_failed old new
    ended =
    (answer : Result Summary RunFault)
    × EndsAs error_bytes rest output_failed old_errors new_errors ended answer
    × Sends config name (remaining (device_of input)) (remaining (device_of rest)) old new answer
