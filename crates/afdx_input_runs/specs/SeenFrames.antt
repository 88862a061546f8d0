-- What a run takes of inputs that say what came in at switches and what left them, whatever they
-- are: two lists, one recording, or two recordings. Frames stand with the newest first.
use Rattle.std.specs.Prelude.{ℕ, ◌≡◌, ◌≤◌, ◌+◌, List, [], ◌∷◌, ◌++◌, length, Option, Some, None, option_map, Result, Ok, Err}
use Rattle.std.specs.Option.{option_or}
use Rattle.afdx_frame.specs.Times.{latest_listed}
use Rattle.afdx_input_lines.specs.Lines.{lines_of, most_reads}
use Rattle.afdx_input_lines.specs.Watching.{calls_of, device_of}
use Rattle.afdx_input_lines.specs.Faults.{fault_of_role}
use Rattle.afdx_input_lines.specs.declared.fault.RunFault.{RunFault}
use Rattle.afdx_input_lines.specs.declared.fault.RunFault.TheVariants.{Recording}
use Rattle.afdx_input_lines.specs.declared.recording_fault.RecordingFault.{RecordingFault}
use Rattle.afdx_input_lines.specs.declared.recording_fault.RecordingFault.TheVariants.{Absent}
use Rattle.afdx_input_lines.specs.declared.role.Role.{Role}
use Rattle.afdx_input_lines.specs.declared.role.Role.TheVariants.{Came, Left}
use Rattle.afdx_input_lines.specs.declared.role.ByRole.{ByRole}
use Rattle.afdx_input_lines.specs.declared.watched.Watched.{Watched}
use Rattle.afdx_input_sources.specs.Causes.{Cause, cause_of, FailedRead, BadInput}
use Rattle.afdx_input_files.specs.Recordings.{plus_lost}
use Rattle.afdx_input_sources.specs.Becoming.{options_of}
use Rattle.afdx_input_sources.specs.Claims.{Ports}
use Rattle.afdx_input_sources.specs.NumberLines.{Lines}
use Rattle.afdx_input_sources.specs.Places.{place_of}
use Rattle.afdx_input_sources.specs.Taking.{Taken, AreCutOff, taken_of_bytes}
use Rattle.afdx_input_sources.specs.Tapping.{Taps, taps_of, taps_of_both}
use Rattle.afdx_input_sources.specs.Merging.{merged_as}
use Rattle.afdx_input_sources.specs.declared.becoming.RecordingOptions.{RecordingOptions}
use Rattle.afdx_input_sources.specs.declared.counts.Tally.{Tally}
use Rattle.afdx_input_runs.specs.Arrivals.{IsSound}
use Rattle.afdx_input_runs.specs.Joining.{Coming, Frame, joined}
use Rattle.afdx_input_runs.specs.RecordingRun.{IsAskedOnceFor}
use Rattle.afdx_input_runs.specs.SeenLines.{frames_in, frames_listed}
use Rattle.afdx_input_runs.specs.SeenRun.{AreCutOffByRole, tallies_by_role, taken_by_role}
use Rattle.afdx_input_runs.specs.TakenRun.{HasNoFault}
use Rattle.afdx_input_runs.specs.TwoListsRun.{AreListed, OneIsCutOff}
use Rattle.afdx_input_runs.specs.declared.seen_frames.SeenCount.{SeenCount}
use Rattle.afdx_input_runs.specs.declared.seen_frames.SeenCount.TheVariants as count

-- ---- with this answer a run has taken these frames

-- of the whole `whole` of recordings; `AreCut` says what was read until a read failed
module _ (whole : Taken) (AreCut : Lines → Type 0) (past : List Frame) where
  -- all, and there is no fault
  pub record AllAreSeen : Type 0 where
    pub over : HasNoFault whole
    pub frames_are : frames_in whole ≡ past

  -- all before this fault; all that was read until a read failed; or, after a failed write or want
  -- of memory, some first ones
  abbrev pub StopsSeeing : RunFault → Cause → Type 0
  StopsSeeing fault FailedRead = (lines : Lines) × AreCut lines × (frames_listed lines ≡ past)
  StopsSeeing fault BadInput = (whole.fault ≡ Some fault) × (frames_in whole ≡ past)
  StopsSeeing fault _ = (later : List Frame) × (frames_in whole ≡ later ++ past)

module _ {R : Type 0} (remaining : R → Option (List ℕ)) where
  -- of lists of these bytes, whose inputs then are these
  module _ (both : List ℕ × List ℕ) (rest : ByRole (Watched R)) (past : List Frame) where
    abbrev pub StopsListed : RunFault → Cause → Type 0
    StopsListed fault FailedRead =
        (came : Coming) × (left : Coming)
        × OneIsCutOff remaining both.0 both.1 rest came left
        × (joined came left ≡ merged_as past (Some fault))
    StopsListed fault BadInput =
        (came : Coming) × (left : Coming) × AreListed remaining both.0 both.1 rest came left
        × (joined came left ≡ merged_as past (Some fault))
    StopsListed fault _ =
        (came : Coming) × (left : Coming) × AreListed remaining both.0 both.1 rest came left
        × (later : List Frame) × ((joined came left).items ≡ later ++ past)

    -- all, and these have so many lines
    pub record AllAreListed (lines : ByRole ℕ) : Type 0 where
      pub came : Coming
      pub left : Coming
      pub are_listed : AreListed remaining both.0 both.1 rest came left
      pub frames_are : joined came left ≡ merged_as past None
      pub lines_came : lines.came ≡ length (lines_of both.0)
      pub lines_left : lines.left ≡ length (lines_of both.1)

    abbrev pub TakesLists : Result SeenCount RunFault → Type 0
    TakesLists (Ok (count.Lists lines)) = AllAreListed lines
    TakesLists (Ok _) = ⊥
    TakesLists (Err fault) = StopsListed fault (cause_of fault)

  -- of a recording of these bytes
  module _ (options : RecordingOptions) (ports : Ports) (bytes : List ℕ) (rest : Watched R)
      (past : List Frame) where
    abbrev whole_of_one : Taken
    whole_of_one = taken_of_bytes (options_of options) ports bytes

    abbrev AreCutOffOne : Lines → Type 0
    AreCutOffOne = AreCutOff (options_of options) ports bytes (remaining (device_of rest))

    abbrev pub TakesRecording : Result SeenCount RunFault → Type 0
    TakesRecording (Ok (count.Recorded tally)) =
        AllAreSeen whole_of_one AreCutOffOne past × (tally ≡ whole_of_one.tally)
    TakesRecording (Ok _) = ⊥
    TakesRecording (Err fault) = StopsSeeing whole_of_one AreCutOffOne past fault (cause_of fault)

  -- of two of these bytes
  module _ (options : ByRole RecordingOptions) (ports : Ports) (both : List ℕ × List ℕ)
      (rest : ByRole (Watched R)) (past : List Frame) where
    abbrev whole_of_two : Taken
    whole_of_two = taken_by_role options ports both.0 both.1

    abbrev AreCutOffTwo : Lines → Type 0
    AreCutOffTwo = AreCutOffByRole options ports remaining both.0 both.1 rest

    abbrev pub TakesRecordings : Result SeenCount RunFault → Type 0
    TakesRecordings (Ok (count.Both tallies)) =
        AllAreSeen whole_of_two AreCutOffTwo past
        × (tallies ≡ tallies_by_role options ports both.0 both.1)
    TakesRecordings (Ok _) = ⊥
    TakesRecordings (Err fault) = StopsSeeing whole_of_two AreCutOffTwo past fault (cause_of fault)

  -- ---- how often they are asked, from the first to the last

  abbrev pub IsAskedForLines : (first last : ByRole (Watched R)) → Type 0
  IsAskedForLines first last =
      (calls_of last.came ≤ calls_of first.came + most_reads)
      × (calls_of last.left ≤ calls_of first.left + most_reads)

  abbrev pub IsAskedForRoles : (first last : ByRole (Watched R)) → Type 0
  IsAskedForRoles first last =
      IsAskedOnceFor remaining first.came last.came
      × IsAskedOnceFor remaining first.left last.left

-- ---- nothing was asked yet

pub record AreNewByRole {R : Type 0} (inputs : ByRole (Watched R)) : Type 0 where
  pub came : IsSound inputs.came
  pub left : IsSound inputs.left

-- ---- which ports were recorded

abbrev pub taps_of_one : RecordingOptions → Taps
taps_of_one options = taps_of (place_of options.interfaces)

abbrev pub taps_of_two : ByRole RecordingOptions → Taps
taps_of_two options = taps_of_both (taps_of_one options.came) (taps_of_one options.left)

-- ---- how many frames recorders lost, 2^64 - 1 if it is more

unfoldable pub lost_of : SeenCount → ℕ
lost_of (count.Lists lines) = 0
lost_of (count.Recorded tally) = tally.lost
lost_of (count.Both tallies) = plus_lost tallies.came.lost tallies.left.lost

-- ---- an interface that options name and a recording never described: the least

abbrev pub absent_by : (RecordingFault → RunFault) → Tally → Option RunFault
absent_by in_recording tally = option_map (λ k. in_recording (Absent k)) tally.absent

abbrev pub absent_in : Role → Tally → Option RunFault
absent_in role tally = absent_by (fault_of_role role) tally

unfoldable pub absent_of : SeenCount → Option RunFault
absent_of (count.Lists lines) = None
absent_of (count.Recorded tally) = absent_by Recording tally
absent_of (count.Both tallies) =
    option_or (absent_in Came tallies.came) (absent_in Left tallies.left)

-- ---- of all frames that a run takes

abbrev pub latest_frame : List Frame → ℕ
latest_frame [] = 0
latest_frame (x ∷ past) = x.arrival.time

-- their times don't go back, and none is too late
abbrev pub GoOn : List Frame → Type 0
GoOn [] = Unit {0}
GoOn (x ∷ past) =
    (latest_frame past ≤ x.arrival.time) × (x.arrival.time ≤ latest_listed) × GoOn past
