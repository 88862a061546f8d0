-- How a command ends that runs over a list or a recording.
use Rattle.std.specs.Prelude.{ℕ, ◌≡◌, ◌||◌, Bool, List, ◌++◌, Option, Result, Ok, Err, OnOk, IfErr}
use Rattle.std.specs.Prelude.{◌⊎◌, true, false, codes, decimal}
use Rattle.std.specs.Result.{result_ok}
use Rattle.afdx_input_lines.specs.declared.fault.RunFault.{RunFault}
use Rattle.afdx_input_lines.specs.declared.watched.Watched.{Watched}
use Rattle.afdx_input_lines.specs.Watching.{has_ended, has_failed}
use Rattle.afdx_input_lines.specs.Calls.{is_failed_read, is_failed_write}
use Rattle.afdx_input_lines.specs.Faults.{status_of}
use Rattle.afdx_text.specs.Telling.{TellsFault}
use Rattle.afdx_command_tables.specs.declared.ending.Ended.{Ended}
use Rattle.afdx_command_tables.specs.declared.summary.Summary.{Summary}

-- the exit status of what a run answers
abbrev pub status_of_answer : Result Summary RunFault → ℕ
status_of_answer (Ok summary) = 0
status_of_answer (Err fault) = status_of fault

-- an exit status of a command that takes a configuration and an input
abbrev pub IsInputStatus : ℕ → Type 0
IsInputStatus status = (status ≡ 0) ⊎ (status ≡ 1) ⊎ (status ≡ 3) ⊎ (status ≡ 4)

-- 0 comes only where the input came to its end, and neither its device nor the output's failed
abbrev pub IsWholeIfDone : {R : Type 0} → ℕ → (input : Watched R) → (output_failed : Bool) →
    Type 0
IsWholeIfDone status input output_failed = status ≡ 0 →
    (has_ended input ≡ true) × (has_failed input ≡ false) × (output_failed ≡ false)

-- 4 comes wherever one of them failed
abbrev pub IsFourIfFailed : {R : Type 0} → ℕ → (input : Watched R) → (output_failed : Bool) →
    Type 0
IsFourIfFailed status input output_failed =
    (has_failed input || output_failed) ≡ true → status ≡ 4

-- A command ends as its run answered: that decides the exit status, the counts that are handed out
-- and what the error output is told, which a run that is done leaves alone, and says whether its
-- input, or both of two, came to the end and which device failed.
pub record EndsWith {E : Type 0} (error_bytes : E → Option (List ℕ)) (all_read : Type 0)
    (input_failed output_failed : Bool) (old_errors new_errors : Watched E) (ended_with : Ended)
    (answer : Result Summary RunFault) : Type 0 where
  pub status_is : ended_with.status ≡ status_of_answer answer
  pub summary_is : ended_with.summary ≡ result_ok answer
  pub told : IfErr answer (TellsFault error_bytes old_errors new_errors)
  pub silent : OnOk answer (new_errors ≡ old_errors)
  pub ended : OnOk answer all_read
  pub read : input_failed ≡ is_failed_read answer
  pub write : output_failed ≡ is_failed_write answer

-- the same of a run over one input
abbrev pub EndsAs : {R E : Type 0} → (E → Option (List ℕ)) → (input : Watched R) →
    (output_failed : Bool) → (old_errors new_errors : Watched E) → Ended →
    Result Summary RunFault → Type 0
EndsAs error_bytes input output_failed old_errors new_errors ended answer =
    EndsWith error_bytes (has_ended input ≡ true) (has_failed input) output_failed
    old_errors new_errors ended answer

-- a word, a number, and what follows
abbrev pub counted : (word : List ℕ) → ℕ → (rest : List ℕ) → List ℕ
counted word n rest = word ++ (decimal n ++ rest)

-- the counts of a run in one line, without its line feed
abbrev pub summary_text : Summary → List ℕ
summary_text s =
    counted (codes "summary lines ") s.lines (counted (codes " accepted ") s.accepted
    (counted (codes " dropped ") s.dropped (counted (codes " lost ") s.lost
    (counted (codes " departed ") s.departed (counted (codes " too-old ") s.too_old
    (codes " delivered " ++ decimal s.delivered))))))
