-- What a run takes that is given the numbers of a recording, or of two, as their lines.
use Rattle.std.specs.Prelude.{ℕ, List, Option, Result}
use Rattle.afdx_frame.specs.declared.by_side.BySide.{BySide}
use Rattle.afdx_input_lines.specs.Watching.{device_of}
use Rattle.afdx_input_lines.specs.declared.fault.RunFault.{RunFault}
use Rattle.afdx_input_lines.specs.declared.watched.Watched.{Watched}
use Rattle.afdx_input_sources.specs.Becoming.{options_of}
use Rattle.afdx_input_sources.specs.Claims.{Ports}
use Rattle.afdx_input_sources.specs.Items.{arrivals}
use Rattle.afdx_input_sources.specs.NumberLines.{Lines, arrivals_listed}
use Rattle.afdx_input_sources.specs.Taking.{AreCutOff, taken_of_bytes}
use Rattle.afdx_input_sources.specs.declared.becoming.RecordingOptions.{RecordingOptions}
use Rattle.afdx_input_sources.specs.declared.counts.Tally.{Tally}
use Rattle.afdx_input_sources.specs.declared.pair_options.PairOptions.{PairOptions}
use Rattle.afdx_input_runs.specs.Arrivals.{DontGoBack}
use Rattle.afdx_input_runs.specs.Over.{TakesLines}
use Rattle.afdx_input_runs.specs.RecordingRun.{AreCutOffInPair, taken_of_pair}

module _ {R : Type 0} (remaining : R → Option (List ℕ)) where
  -- with this answer a run has taken these lines of a recording of these bytes, whose input is
  -- then `rest`
  abbrev pub TakesNumbers : RecordingOptions → Ports → List ℕ → (rest : Watched R) → Lines →
      Result Tally RunFault → Type 0
  TakesNumbers options ports bytes rest lines answer =
      TakesLines (taken_of_bytes (options_of options) ports bytes)
      (AreCutOff (options_of options) ports bytes (remaining (device_of rest))) lines answer

  -- so of two of these bytes
  abbrev pub TakesNumbersOfTwo : PairOptions → Ports → (both : List ℕ × List ℕ) →
      (rest : BySide (Watched R)) → Lines → Result Tally RunFault → Type 0
  TakesNumbersOfTwo options ports both rest lines answer =
      TakesLines (taken_of_pair options ports both.0 both.1)
      (AreCutOffInPair options ports remaining both.0 both.1 rest) lines answer

-- the times of the arrivals among these lines, of which the newest is the first, don't go back
abbrev pub ArrivalsGoOn : Lines → Type 0
ArrivalsGoOn lines = DontGoBack (arrivals (arrivals_listed lines))
