-- What the command `replay` does, whatever its configuration describes.
use Rattle.std.specs.Prelude.{ℕ, ◌≡◌, Bool, true, List, Option, Result, IfSome}
use Rattle.afdx_command_tables.specs.Checking.{IsAdmittedFile, IsRead}
use Rattle.afdx_command_tables.specs.Commands.{EndsAs}
use Rattle.afdx_command_tables.specs.declared.ending.Ended.{Ended}
use Rattle.afdx_command_tables.specs.declared.summary.Summary.{Summary}
use Rattle.afdx_config.specs.declared.describing.Described.{Described}
use Rattle.afdx_config.specs.declared.describing.Described.TheVariants.{One, Several}
use Rattle.afdx_input_lines.specs.Watching.{device_of}
use Rattle.afdx_input_lines.specs.declared.fault.RunFault.{RunFault}
use Rattle.afdx_input_lines.specs.declared.watched.Watched.{Watched}
use Rattle.afdx_replay.specs.cascading.Ran as cascade
use Rattle.afdx_replay.specs.replaying.PromisedRun.{PromisedAnswers}
use Rattle.afdx_replay.specs.replaying.Replayed.{Answers}

-- what is answered and written for a list of these bytes
abbrev pub FileAnswers : Described → List ℕ → (rest old new : Option (List ℕ)) →
    Result Summary RunFault → Type 0
FileAnswers (One t) bytes rest old new answer = Answers t bytes rest old new answer
FileAnswers (Several switches) bytes rest old new answer =
    cascade.Answers switches bytes rest old new answer

-- of one switch on a side that is admitted it is as promised; what is promised of several is
-- in their answers
abbrev pub FilePromises : Described → List ℕ → (rest old new : Option (List ℕ)) →
    Result Summary RunFault → Type 0
FilePromises (One t) bytes rest old new answer = PromisedAnswers t bytes rest old new answer
FilePromises (Several switches) bytes rest old new answer = Unit {0}

-- A list is replayed by what the configuration describes, which is admitted if that is asked for.
-- Where the list's bytes are known, what is written is what goes with this answer; and if admission
-- is asked for, it is as promised.
pub record Replays (config : List ℕ) (admission : Bool) (list rest old new : Option (List ℕ))
    (answer : Result Summary RunFault) : Type 0 where
  pub described : Described
  pub read : IsRead config described
  pub admitted : admission ≡ true → IsAdmittedFile described
  pub answers : IfSome list (λ bytes. FileAnswers described bytes rest old new answer)
  pub promised : admission ≡ true →
      IfSome list (λ bytes. FilePromises described bytes rest old new answer)

-- The command ends as its run over the list answered: of an input that is then `rest`, with error
-- output `old_errors` that is then `new_errors`, and an output that held `old` and holds `new`.
abbrev pub EndsReplaying : {R E : Type 0} → (remaining : R → Option (List ℕ)) →
    (error_bytes : E → Option (List ℕ)) → (config : List ℕ) → (admission : Bool) →
    (input rest : Watched R) → (old_errors new_errors : Watched E) → (output_failed : Bool) →
    (old new : Option (List ℕ)) → Ended → Type 0
EndsReplaying remaining error_bytes config admission input rest old_errors new_errors output_failed
    old new ended =
    (answer : Result Summary RunFault)
    × EndsAs error_bytes rest output_failed old_errors new_errors ended answer
    × Replays config admission (remaining (device_of input)) (remaining (device_of rest)) old new
    answer
