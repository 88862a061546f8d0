-- What a run over a recording answers, and what that says of its arrivals.
use Rattle.std.proofs.Common.{◌≡◌, ℕ, List, ap, ◌∙◌}
use Rattle.std.proofs.Common.{Option, Some, None, Result, IfSome}
use Rattle.afdx_input_lines.specs.declared.frame_line.Heading.{Heading}
use Rattle.afdx_input_lines.specs.declared.fault.RunFault.{RunFault}
use Rattle.afdx_input_files.specs.Reading.{recorded}
use Rattle.afdx_input_sources.specs.Engine.{Item}
use Rattle.afdx_input_sources.specs.declared.counts.Tally.{Tally}
use Rattle.afdx_input_sources.specs.Becoming.{Options}
use Rattle.afdx_input_sources.specs.Claims.{Ports, Agree}
use Rattle.afdx_input_sources.specs.NumberLines.{Lines, arrivals_listed}
use Rattle.afdx_input_runs.specs.RecordingRun.{RecordingAnswers}
use Rattle.afdx_input_runs.specs.TakenRun.{TakenAnswers}
use Rattle.afdx_input_sources.specs.Ordering.{Sequence}
use Rattle.afdx_input_sources.specs.Taking.{AreCutOff, late_of_one, taken_of, taken_of_bytes}
use Rattle.afdx_input_sources.specs.Timing.{timed}
use Rattle.afdx_input_sources.proofs.LawLemmas.{sequences-agree}
use Rattle.afdx_input_runs.proofs.TakenLemmas.{answers-same}

-- ---- by ports that agree

module _ (options : Options) (p q : Ports) (a : Agree p q) where
  -- what is taken is the same
  pub taken-agree : (bytes : List ℕ) → taken_of_bytes options p bytes ≡ taken_of_bytes options q bytes
  taken-agree bytes =
      ap (λ (s : Sequence). taken_of options.origin s) (sequences-agree options p q (recorded bytes) a)

  pub cut-agree : (bytes : List ℕ) (rest : Option (List ℕ)) (lines : Lines) → AreCutOff options p bytes rest lines
      → AreCutOff options q bytes rest lines
  cut-agree bytes rest lines h = (
    h.0,
    h.1,
    h.2 ∙ ap (λ (s : Sequence). (timed late_of_one options.origin s.known).lines)
        (sequences-agree options p q (recorded h.0) a),
  )

  module _ {H : Type 0} (items_of : Lines → List (Item H)) (done told begins : List (Item H) → Type 0) where
    abbrev Answers-by : Ports → List ℕ → Option (List ℕ) → Result Tally RunFault → Type 0
    Answers-by ports bytes rest r =
        TakenAnswers (taken_of_bytes options ports bytes) (AreCutOff options ports bytes rest)
        items_of done told begins r

    pub answers-agree : (bytes : List ℕ) (rest : Option (List ℕ)) (r : Result Tally RunFault)
        → Answers-by p bytes rest r → Answers-by q bytes rest r
    answers-agree bytes rest r h =
        answers-same (taken_of_bytes options p bytes) (taken_of_bytes options q bytes)
        (AreCutOff options p bytes rest) (AreCutOff options q bytes rest) items_of done told begins r
        (taken-agree bytes) (λ lines c. cut-agree bytes rest lines c) h

    pub seen-agree : (left rest : Option (List ℕ)) (r : Result Tally RunFault)
        → IfSome left (λ bytes. Answers-by p bytes rest r)
        → IfSome left (λ bytes. Answers-by q bytes rest r)
    seen-agree None rest r h = tt
    seen-agree (Some bytes) rest r h = answers-agree bytes rest r h

  pub if-agree : (done told begins : List (Item Heading) → Type 0) (left rest : Option (List ℕ))
      (r : Result Tally RunFault)
      → IfSome left (λ bytes. RecordingAnswers options p done told begins bytes rest r)
      → IfSome left (λ bytes. RecordingAnswers options q done told begins bytes rest r)
  if-agree done told begins left rest r h = seen-agree arrivals_listed done told begins left rest r h
