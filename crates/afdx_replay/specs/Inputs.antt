-- Runs over an input that is a list of frames, or a recording, or over two recordings: what they
-- count.
use Rattle.std.specs.Prelude.{ℕ, ◌≡◌, Bool, List, Option, Some, None, Result, Ok, Err}
use Rattle.afdx_input_lines.specs.declared.fault.RunFault.{RunFault}
use Rattle.afdx_input_runs.specs.declared.input_run.InputCount.{InputCount}
use Rattle.afdx_input_runs.specs.declared.input_run.InputCount.TheVariants.{Lines, Recorded}
use Rattle.afdx_input_lines.specs.declared.frame_line.Heading.{Heading}
use Rattle.afdx_input_sources.specs.Engine.{Item}
use Rattle.afdx_input_sources.specs.declared.counts.Tally.{Tally}
use Rattle.afdx_command_tables.specs.declared.summary.Summary.{Summary}
use Rattle.afdx_input_lines.specs.declared.watched.Watched.{Watched}
use Rattle.afdx_command_tables.specs.Commands.{EndsWith}
use Rattle.afdx_replay.specs.declared.input_ending.InputEnded.{InputEnded}
use Rattle.afdx_replay.specs.declared.input_ending.InputSummary.{InputSummary}

-- with this answer a run has taken the arrivals of these items
abbrev pub Taking : Type 1
Taking = List (Item Heading) → Result InputCount RunFault → Type 0

-- these counts, of so many lines or numbers
abbrev pub counted_over : Summary → ℕ → Summary
counted_over counts n = record counts { lines = n }

abbrev pub summary_of : Summary → InputCount → InputSummary
summary_of counts (Lines n) = record { summary = counted_over counts n; tally = None }
summary_of counts (Recorded tally) =
    record { summary = counted_over counts tally.numbers; tally = Some tally }

-- these counts, if the run came to the end
abbrev pub answer_of : Summary → Result InputCount RunFault → Result InputSummary RunFault
answer_of counts (Ok count) = Ok (summary_of counts count)
answer_of counts (Err fault) = Err fault

-- an answer without its tally, and that
abbrev pub summary_in : Result InputSummary RunFault → Result Summary RunFault
summary_in (Ok all) = Ok all.summary
summary_in (Err fault) = Err fault

abbrev pub tally_in : Result InputSummary RunFault → Option Tally
tally_in (Ok all) = all.tally
tally_in (Err fault) = None

-- a command ends as its run answered: so it came to its end, and its devices failed or didn't
pub record EndsInputAs {E : Type 0} (error_bytes : E → Option (List ℕ)) (all_read : Type 0)
    (input_failed output_failed : Bool) (old_errors new_errors : Watched E)
    (ended_with : InputEnded) (answer : Result InputSummary RunFault) : Type 0 where
  pub ends : EndsWith error_bytes all_read input_failed output_failed old_errors new_errors
      ended_with.ended (summary_in answer)
  pub tally : ended_with.tally ≡ tally_in answer
