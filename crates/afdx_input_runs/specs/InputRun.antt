-- What a run over an input answers that is a list of frames, or a recording.
use Rattle.std.specs.Prelude.{ℕ, ◌≤◌, ◌+◌, ◌⊎◌, ◌||◌, Bool, true, false, List, take, Option, Some, None}
use Rattle.std.specs.Prelude.{Result, Ok, Err}
use Rattle.afdx_input_lines.specs.Peeking.{looked_at}
use Rattle.afdx_input_lines.specs.Lines.{most_reads}
use Rattle.afdx_input_lines.specs.declared.frame_line.Heading.{Heading}
use Rattle.afdx_input_lines.specs.declared.fault.RunFault.{RunFault}
use Rattle.afdx_input_files.specs.Beginning.{is_recording}
use Rattle.afdx_input_sources.specs.Engine.{Item}
use Rattle.afdx_input_sources.specs.Items.{thing_of}
use Rattle.afdx_input_sources.specs.ListRun.{ListAnswers}
use Rattle.afdx_input_sources.specs.Lists.{Kind}
use Rattle.afdx_input_sources.specs.declared.becoming.RecordingOptions.{RecordingOptions}
use Rattle.afdx_input_runs.specs.declared.input_run.InputCount.{InputCount}
use Rattle.afdx_input_runs.specs.declared.input_run.InputCount.TheVariants.{Lines, Recorded}
use Rattle.afdx_input_sources.specs.Becoming.{Options, options_of}
use Rattle.afdx_input_sources.specs.Claims.{Ports, ports_unsaid}
use Rattle.afdx_input_sources.specs.Entering.{IsEntered}
use Rattle.afdx_input_runs.specs.RecordingRun.{IsAskedOnce, RecordingAnswers}
use Rattle.afdx_input_runs.specs.declared.reading.Reading.{Reading}

-- an input whose first bytes are these is read as a recording: it has to be one, or begins as one
abbrev pub is_recorded : (has_to_be : Bool) → List ℕ → Bool
is_recorded has_to_be seen = has_to_be || is_recording seen

-- so is one that gives this, by its true first bytes; one that gives nobody knows what may be one
abbrev pub is_read_recorded : (has_to_be : Bool) → (left : Option (List ℕ)) → Bool
is_read_recorded has_to_be None = true
is_read_recorded has_to_be (Some bytes) = is_recorded has_to_be (take looked_at bytes)

-- how often an input may be asked: a recording at most once for each byte, and once more
abbrev pub IsAskedBy : Bool → (left rest : Option (List ℕ)) → (old new : ℕ) → Type 0
IsAskedBy true left rest old new = IsAskedOnce left rest old new
IsAskedBy false left rest old new = new ≤ old + most_reads

-- and that often more to look at its first bytes
abbrev pub IsAskedFew : (has_to_be : Bool) → (left rest : Option (List ℕ)) → (old new : ℕ) → Type 0
IsAskedFew has_to_be left rest old new =
    IsAskedBy (is_read_recorded has_to_be left) left rest (old + looked_at) new

module _ {Said Thing : Type 0} (kind : Kind Said Thing) (thing : Item Heading → Thing)
    (way : Options × Ports) (done told begins : List (Item Heading) → Type 0) where
  -- what a run answers whose input has these bytes, and then has `rest`, as a recording, or as a
  -- list of this kind
  abbrev pub InputAnswers : Bool → List ℕ → Option (List ℕ) → Result InputCount RunFault → Type 0
  InputAnswers true bytes rest (Ok (Recorded tally)) =
      RecordingAnswers way.0 way.1 done told begins bytes rest (Ok tally)
  InputAnswers true bytes rest (Err fault) =
      RecordingAnswers way.0 way.1 done told begins bytes rest (Err fault)
  InputAnswers false bytes rest (Ok (Lines n)) =
      ListAnswers kind thing done told begins bytes rest (Ok n)
  InputAnswers false bytes rest (Err fault) =
      ListAnswers kind thing done told begins bytes rest (Err fault)
  InputAnswers _ bytes rest (Ok _) = ⊥

-- ---- of an input that is read so

-- an item can come of it: a line of its form says it, or it is a frame that came in as its options
-- say, and else its ports
abbrev pub CanBeRead : {F : Type 0} → RecordingOptions → Reading F →
    (says : F → Item Heading → Type 0) → Item Heading → Type 0
CanBeRead options reading says item =
    says reading.form item ⊎ IsEntered (options_of options) (ports_unsaid reading.unsaid) item

-- What a run answers whose input has these bytes, and then has `rest`. Those that were seen first
-- decide whether it is read as a recording, or as a list of the kind of its form.
abbrev pub ReadingAnswers : {F Said Thing : Type 0} → RecordingOptions → Reading F →
    (F → Kind Said Thing) → (says_of : Heading → List ℕ → Said) → (seen : List ℕ) →
    (done told begins : List (Item Heading) → Type 0) → List ℕ → Option (List ℕ) →
    Result InputCount RunFault → Type 0
ReadingAnswers options reading kind says_of seen done told begins bytes rest result =
    InputAnswers (kind reading.form) (thing_of (kind reading.form) says_of)
    (options_of options, ports_unsaid reading.unsaid) done told begins
    (is_recorded options.are_given seen) bytes rest result
