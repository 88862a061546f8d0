-- Of the lines that a machine was handed: what a run took, and how much was told of them.
use Rattle.std.proofs.Common.{ℕ, List, [], refl, sym, append-nil}
use Rattle.std.proofs.Common.{Option, Some, None, Result, Ok, Err, IfSome, ◌⊎◌}
use Rattle.afdx_input_lines.specs.declared.fault.RunFault.{RunFault}
use Rattle.afdx_input_lines.specs.declared.fault.RunFault.TheVariants as run
use Rattle.afdx_input_sources.specs.Causes.{Cause, cause_of, FailedRead, FailedWrite, NoMemory, BadInput}
use Rattle.afdx_input_sources.specs.Becoming.{Options}
use Rattle.afdx_input_sources.specs.Claims.{Ports}
use Rattle.afdx_input_sources.specs.NumberLines.{Lines}
use Rattle.afdx_input_sources.specs.Taking.{Taken, AreCutOff, taken_of_bytes}
use Rattle.afdx_input_sources.specs.declared.counts.Tally.{Tally}
use Rattle.afdx_input_runs.specs.Arrivals.{ByCause, TookAndTold}
use Rattle.afdx_input_runs.specs.ListText.{lines_themselves}
use Rattle.afdx_input_runs.specs.Over.{AreFirstLines, StopsTaking, TakesLines, both}
use Rattle.afdx_input_runs.specs.RecordingRun.{IfBoth}
use Rattle.afdx_input_runs.specs.TakenRun.{FirstAreBegun, TakenAnswers, TakenStops}

-- ---- what was told of them

module _ (done told begins : Lines → Type 0) where
  module _ (whole : Taken) (AreCut : Lines → Type 0) where
    abbrev pub Took : Result Tally RunFault → Type 0
    Took answer = TookAndTold (λ lines. TakesLines whole AreCut lines) answer done told begins

    first : FirstAreBegun whole AreCut lines_themselves done told begins
        → (lines : Lines) × AreFirstLines whole lines × (told lines ⊎ begins lines)
    first s = (s.past, (s.later, s.parts), s.begun)

    stops-took : (fault : RunFault) (cause : Cause)
        → TakenStops whole AreCut lines_themselves done told begins fault cause
        → (lines : Lines) × StopsTaking whole AreCut lines fault cause
        × ByCause cause (told lines) (told lines ⊎ begins lines)
    stops-took fault FailedRead h = (h.0, h.1, h.2)
    stops-took fault FailedWrite h = first h
    stops-took fault NoMemory h = first h
    stops-took fault BadInput h = (whole.lines, (h.0, refl), h.1)

    pub lines-took : (r : Result Tally RunFault)
        → TakenAnswers whole AreCut lines_themselves done told begins r → Took r
    lines-took (Ok tally) h = (
      whole.lines,
      (record { over = h.over; lines_are = refl }, h.tally_is),
      h.are_told,
    )
    lines-took (Err fault) h = stops-took fault (cause_of fault) h

  -- of one recording
  pub one-took : (options : Options) (ports : Ports) (left rest : Option (List ℕ)) (r : Result Tally RunFault)
      → IfSome left (λ bytes. TakenAnswers (taken_of_bytes options ports bytes) (AreCutOff options ports bytes rest)
      lines_themselves done told begins r)
      → IfSome left (λ bytes. Took (taken_of_bytes options ports bytes) (AreCutOff options ports bytes rest) r)
  one-took options ports None rest r h = tt
  one-took options ports (Some bytes) rest r h =
      lines-took (taken_of_bytes options ports bytes) (AreCutOff options ports bytes rest) r h

  -- of two
  pub two-took : (whole : (a b : List ℕ) → Taken) (AreCut : (a b : List ℕ) → Lines → Type 0)
      (a b : Option (List ℕ)) (r : Result Tally RunFault)
      → IfBoth a b (λ a b. TakenAnswers (whole a b) (AreCut a b) lines_themselves done told begins r)
      → IfSome (both a b) (λ of. Took (whole of.0 of.1) (AreCut of.0 of.1) r)
  two-took whole AreCut None b r h = tt
  two-took whole AreCut (Some a) None r h = tt
  two-took whole AreCut (Some a) (Some b) r h = lines-took (whole a b) (AreCut a b) r h

-- ---- of nothing

pub none-taken : (whole : Taken) (AreCut : Lines → Type 0) → TakesLines whole AreCut [] (Err run.Memory)
none-taken whole AreCut = (whole.lines, sym (append-nil whole.lines))
