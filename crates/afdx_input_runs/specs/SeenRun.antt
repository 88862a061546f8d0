-- What a run takes of recordings of what came in at switches and of what left them: of one that has
-- both, or of two.
use Rattle.std.specs.Prelude.{ℕ, ◌≡◌, List, Option, option_map, true, false, Result, Ok, Err}
use Rattle.afdx_input_lines.specs.Faults.{fault_by_role}
use Rattle.afdx_input_lines.specs.Watching.{device_of, has_failed}
use Rattle.afdx_input_lines.specs.declared.fault.RunFault.{RunFault}
use Rattle.afdx_input_lines.specs.declared.role.ByRole.{ByRole}
use Rattle.afdx_input_lines.specs.declared.watched.Watched.{Watched}
use Rattle.afdx_input_sources.specs.Engine.{Item}
use Rattle.afdx_input_sources.specs.Becoming.{Options, options_of}
use Rattle.afdx_input_sources.specs.Claims.{Ports}
use Rattle.afdx_input_sources.specs.NumberLines.{Lines}
use Rattle.afdx_input_sources.specs.Ordering.{Sequence}
use Rattle.afdx_input_sources.specs.Taking.{Taken, AreCutOff, AreCutOffAtOne, sequence_of_bytes, taken_of_both}
use Rattle.afdx_input_sources.specs.Taking.{taken_of_bytes}
use Rattle.afdx_input_sources.specs.declared.becoming.RecordingOptions.{RecordingOptions}
use Rattle.afdx_input_sources.specs.declared.counts.Tally.{Tally}
use Rattle.afdx_input_runs.specs.SeenLines.{seen_listed}
use Rattle.afdx_input_runs.specs.TakenRun.{TakenAnswers}
use Rattle.afdx_input_runs.specs.declared.seen.Seen.{Seen}

-- what a run answers that is given one recording of these bytes, after which the input has `rest`
abbrev pub SeenAnswers : Options → Ports → (done told begins : List (Item Seen) → Type 0) →
    List ℕ → Option (List ℕ) → Result Tally RunFault → Type 0
SeenAnswers options ports done told begins bytes rest result =
    TakenAnswers (taken_of_bytes options ports bytes) (AreCutOff options ports bytes rest)
    seen_listed done told begins result

-- ---- of two

-- what the options say of the recording of what came in, which is the first of both, and of that of
-- what left
abbrev pub options_of_came : ByRole RecordingOptions → Options
options_of_came options = record (options_of options.came) { is_second = false }

abbrev pub options_of_left : ByRole RecordingOptions → Options
options_of_left options = record (options_of options.left) { is_second = true }

-- a fault is named by what its recording is of
abbrev pub named_by_role : Taken → Taken
named_by_role whole = record whole { fault = option_map fault_by_role whole.fault }

module _ (options : ByRole RecordingOptions) (ports : Ports) where
  -- the sequences of both
  abbrev pub sequence_of_came : List ℕ → Sequence
  sequence_of_came bytes = sequence_of_bytes (options_of_came options) ports bytes

  abbrev pub sequence_of_left : List ℕ → Sequence
  sequence_of_left bytes = sequence_of_bytes (options_of_left options) ports bytes

  -- what a run takes of recordings of these bytes. Time 0 is the moment that the options of what
  -- came in say, or that of the first frame of both
  abbrev pub taken_unnamed : (came left : List ℕ) → Taken
  taken_unnamed came left =
      taken_of_both options.came.origin (sequence_of_came came) (sequence_of_left left)

  abbrev pub taken_by_role : (came left : List ℕ) → Taken
  taken_by_role came left = named_by_role (taken_unnamed came left)

  -- what each has
  abbrev pub tallies_by_role : (came left : List ℕ) → ByRole Tally
  tallies_by_role came left = record {
    came = (sequence_of_came came).tally;
    left = (sequence_of_left left).tally;
  }

  -- what stands there once a read of one failed
  abbrev pub AreCutOffByRole : {R : Type 0} → (R → Option (List ℕ)) → (came left : List ℕ) →
      (rest : ByRole (Watched R)) → Lines → Type 0
  AreCutOffByRole remaining came left rest lines =
      AreCutOffAtOne options.came.origin sequence_of_came sequence_of_left
      (has_failed rest.came) (has_failed rest.left) came left
      (remaining (device_of rest.came)) (remaining (device_of rest.left)) lines

  -- ---- what is answered

  module _ {R : Type 0} (remaining : R → Option (List ℕ)) (both : List ℕ × List ℕ)
      (rest : ByRole (Watched R)) (done told begins : List (Item Seen) → Type 0) where
    -- before the fault is named
    abbrev pub UnnamedAnswer : Result Tally RunFault → Type 0
    UnnamedAnswer result =
        TakenAnswers (taken_unnamed both.0 both.1)
        (AreCutOffByRole remaining both.0 both.1 rest) seen_listed done told begins result

    -- all was told, and both have such tallies; or it stops with a fault, which is then named
    abbrev pub RolesAnswer : Result (ByRole Tally) RunFault → Type 0
    RolesAnswer (Ok tallies) =
        (tally : Tally) × UnnamedAnswer (Ok tally)
        × (tallies ≡ tallies_by_role both.0 both.1)
    RolesAnswer (Err fault) =
        (unnamed : RunFault) × UnnamedAnswer (Err unnamed) × (fault ≡ fault_by_role unnamed)
