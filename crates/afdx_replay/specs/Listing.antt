-- What the command `list` does: it writes a recording, or two that are read at once, as the frame
-- list that says the same.
use Rattle.std.specs.Prelude.{ℕ, ◌≡◌, ◌⊎◌, Bool, List, Option, None, IfSome, Result, Ok, Err, IfErr, OnOk}
use Rattle.std.specs.Result.{result_ok}
use Rattle.afdx_config.specs.declared.describing.Described.{Described}
use Rattle.afdx_input_lines.specs.Calls.{is_failed_read, is_failed_write}
use Rattle.afdx_input_lines.specs.Faults.{status_of}
use Rattle.afdx_input_lines.specs.declared.fault.RunFault.{RunFault}
use Rattle.afdx_input_lines.specs.declared.watched.Watched.{Watched}
use Rattle.afdx_input_runs.specs.ListText.{Lists}
use Rattle.afdx_input_sources.specs.Claims.{Ports, ports_in}
use Rattle.afdx_input_sources.specs.NumberLines.{Lines}
use Rattle.afdx_input_sources.specs.declared.counts.Tally.{Tally}
use Rattle.afdx_text.specs.Telling.{TellsFault}
use Rattle.afdx_command_tables.specs.Checking.{IsRead}
use Rattle.afdx_replay.specs.Placed.{ArePlacedIn, IsUnplaced}
use Rattle.afdx_replay.specs.declared.listing.ListEnded.{ListEnded}

-- the exit status of what a listing answers
abbrev pub status_of_listing : Result Tally RunFault → ℕ
status_of_listing (Ok tally) = 0
status_of_listing (Err fault) = status_of fault

-- the command ends as the listing answered: so it came to its end, and its devices failed or didn't
pub record EndsListed {E : Type 0} (error_bytes : E → Option (List ℕ)) (all_read : Type 0)
    (input_failed output_failed : Bool) (old_errors new_errors : Watched E)
    (ended_with : ListEnded) (answer : Result Tally RunFault) : Type 0 where
  pub status_is : ended_with.status ≡ status_of_listing answer
  pub tally_is : ended_with.tally ≡ result_ok answer
  pub told : IfErr answer (TellsFault error_bytes old_errors new_errors)
  pub silent : OnOk answer (new_errors ≡ old_errors)
  pub ended : OnOk answer all_read
  pub read : input_failed ≡ is_failed_read answer
  pub write : output_failed ≡ is_failed_write answer

-- by what the configuration describes
pub record ListsIn (config : List ℕ) (so : Described → Type 0) : Type 0 where
  pub described : Described
  pub read : IsRead config described
  pub so_is : so described

-- The command ends as its listing answered: `so` is true of the answer, by the options with their
-- places in what the configuration describes. Or nothing is listed, the error output is told why,
-- and what it was given is `untouched`.
abbrev pub EndsListing : {P E : Type 0} → (Placed : Described → P → P → Type 0) →
    (Misplaced : Described → P → Type 0) → (error_bytes : E → Option (List ℕ)) →
    (config : List ℕ) → (options : P) → (old_errors new_errors : Watched E) → (all_read : Type 0) →
    (input_failed output_failed : Bool) → ListEnded →
    (so : P → Described → Result Tally RunFault → Type 0) → (untouched : Type 0) → Type 0
EndsListing Placed Misplaced error_bytes config options old_errors new_errors all_read input_failed
    output_failed ended so untouched =
    ((answer : Result Tally RunFault)
    × EndsListed error_bytes all_read input_failed output_failed old_errors new_errors ended answer
    × ListsIn config (λ d. ArePlacedIn Placed options d (λ placed. so placed d answer)))
    ⊎ (IsUnplaced Placed options Misplaced error_bytes old_errors new_errors config ended.status
    × (ended.tally ≡ None) × untouched)

-- What is answered and written, where the bytes of the input `first` are known, which is then
-- `last`, by what a run takes of them: the output held `old` and holds `new`.
abbrev pub ListsBy : {P I B : Type 0} → (known : I → Option B) →
    (takes : P → Ports → B → I → Lines → Result Tally RunFault → Type 0) → (first last : I) →
    (old new : Option (List ℕ)) → P → Described → Result Tally RunFault → Type 0
ListsBy known takes first last old new options described answer =
    IfSome (known first) (λ bytes.
    Lists described (takes options (ports_in described) bytes last) old new answer)
