-- What a run over a recording, or over two, answers, whatever machine tells it.
use Rattle.std.specs.Prelude.{ℕ, ◌≤◌, ◌+◌, ⊤, List, length, Option, Some, Result}
use Rattle.afdx_frame.specs.declared.by_side.BySide.{BySide}
use Rattle.afdx_input_lines.specs.Watching.{calls_of, device_of, has_failed}
use Rattle.afdx_input_lines.specs.declared.watched.Watched.{Watched}
use Rattle.afdx_input_lines.specs.declared.frame_line.Heading.{Heading}
use Rattle.afdx_input_lines.specs.declared.fault.RunFault.{RunFault}
use Rattle.afdx_input_sources.specs.Engine.{Item}
use Rattle.afdx_input_sources.specs.declared.pair_options.PairOptions.{PairOptions}
use Rattle.afdx_input_sources.specs.declared.counts.Tally.{Tally}
use Rattle.afdx_input_sources.specs.Becoming.{Options}
use Rattle.afdx_input_sources.specs.Claims.{Ports}
use Rattle.afdx_input_sources.specs.Entering.{IsEnteredInPair}
use Rattle.afdx_input_sources.specs.NumberLines.{Lines, arrivals_listed}
use Rattle.afdx_input_sources.specs.PairOptions.{options_of_a, options_of_b}
use Rattle.afdx_input_sources.specs.Ordering.{Sequence}
use Rattle.afdx_input_sources.specs.Taking.{Taken, taken_of_bytes, taken_of_both, AreCutOff, AreCutOffAtOne, sequence_of_bytes}
use Rattle.afdx_input_runs.specs.TakenRun.{TakenAnswers}

-- where what an input gives is known: from `left` to `rest` it was asked at most once for each byte
-- that it gave, and once more
abbrev pub IsAskedOnce : (left rest : Option (List ℕ)) → (old new : ℕ) → Type 0
IsAskedOnce (Some left) (Some rest) old new = new + length rest ≤ old + length left + 1
IsAskedOnce _ _ old new = ⊤

-- so an input was, from the first to the last
abbrev pub IsAskedOnceFor : {R : Type 0} → (R → Option (List ℕ)) → (first last : Watched R) → Type 0
IsAskedOnceFor remaining first last =
    IsAskedOnce (remaining (device_of first)) (remaining (device_of last))
    (calls_of first) (calls_of last)

-- what a run answers that is given a recording of these bytes, after which the input has `rest`
abbrev pub RecordingAnswers : Options → Ports → (done told begins : List (Item Heading) → Type 0) →
    List ℕ → Option (List ℕ) → Result Tally RunFault → Type 0
RecordingAnswers options ports done told begins bytes rest result =
    TakenAnswers (taken_of_bytes options ports bytes) (AreCutOff options ports bytes rest)
    arrivals_listed done told begins result

-- the bytes of two inputs, where both are known
abbrev pub IfBoth : (a b : Option (List ℕ)) → (List ℕ → List ℕ → Type 0) → Type 0
IfBoth (Some a) (Some b) holds = holds a b
IfBoth _ _ holds = ⊤

abbrev pub IfBothKnown : {R : Type 0} → (R → Option (List ℕ)) → (inputs : BySide (Watched R)) →
    (List ℕ → List ℕ → Type 0) → Type 0
IfBothKnown remaining inputs holds =
    IfBoth (remaining (device_of inputs.a)) (remaining (device_of inputs.b)) holds

module _ (options : PairOptions) (ports : Ports) where
  -- an arrival came in as the options of one of the two say, and these ports
  abbrev pub IsEnteredBy : Item Heading → Type 0
  IsEnteredBy = IsEnteredInPair (options_of_a options) (options_of_b options) ports

  -- the sequences of the recordings of A and of B
  abbrev pub of_a : List ℕ → Sequence
  of_a bytes = sequence_of_bytes (options_of_a options) ports bytes

  abbrev pub of_b : List ℕ → Sequence
  of_b bytes = sequence_of_bytes (options_of_b options) ports bytes

  -- what a run takes of recordings of these bytes
  abbrev pub taken_of_pair : (a b : List ℕ) → Taken
  taken_of_pair a b = taken_of_both options.origin (of_a a) (of_b b)

  -- what stands there once a read of one failed
  abbrev pub AreCutOffInPair : {R : Type 0} → (R → Option (List ℕ)) → (a b : List ℕ) →
      (rest : BySide (Watched R)) → Lines → Type 0
  AreCutOffInPair remaining a b rest lines =
      AreCutOffAtOne options.origin of_a of_b (has_failed rest.a) (has_failed rest.b) a b
      (remaining (device_of rest.a)) (remaining (device_of rest.b)) lines

  -- what a run answers that is given recordings of these bytes, whose inputs then are `rest`
  abbrev pub PairAnswers : {R : Type 0} → (R → Option (List ℕ)) → (rest : BySide (Watched R)) →
      (done told begins : List (Item Heading) → Type 0) → (a b : List ℕ) →
      Result Tally RunFault → Type 0
  PairAnswers remaining rest done told begins a b result =
      TakenAnswers (taken_of_pair a b) (AreCutOffInPair remaining a b rest) arrivals_listed
      done told begins result
