-- What a run has told of the frames of both roles. A list of lines has the oldest first, one of
-- frames the newest.
use Rattle.std.specs.Prelude.{ℕ, ◌≡◌, ◌+◌, ◌<◌, ◌≤◌, Bool, true, false, is_some, List, ◌∷◌, ◌++◌, length, reverse, Option, Some, None, min}
use Rattle.std.specs.Io.KnownBytes.{Appends}
use Rattle.std.specs.List.{AllByRecursion}
use Rattle.afdx_config.specs.Rows.{Rows}
use Rattle.afdx_conform.specs.Ranges.{most_held}
use Rattle.afdx_input_sources.specs.Engine.{Item}
use Rattle.afdx_input_runs.specs.Joining.{Frame, frames_of}
use Rattle.afdx_input_runs.specs.declared.seen.Seen.{Seen}
use Rattle.afdx_text.specs.declared.conform_line.Conclusion.{Conclusion}
use Rattle.afdx_command_conform.specs.AllLines.{AreAllLines}
use Rattle.afdx_command_conform.specs.Beginning.{AreDueEarly}
use Rattle.afdx_command_conform.specs.Choices.{Choices, latest_of, left_out_of, until_or}
use Rattle.afdx_command_conform.specs.ChoicesOf.{choices_of}
use Rattle.afdx_command_conform.specs.Telling.{findings_in, lines_text, most_counted}
use Rattle.afdx_command_conform.specs.Keeping.{IsNothingDue}
pub use Rattle.afdx_command_conform.specs.Lines.{Due, lines_of}
use Rattle.afdx_command_conform.specs.RunLaws.{AreByTime}
use Rattle.afdx_command_conform.specs.Standing.{StreamsStand, seen_by}
use Rattle.afdx_command_conform.specs.Written.{WritesLines}
use Rattle.afdx_command_conform.specs.declared.streams.Streams.{Streams}
use Rattle.afdx_command_conform.specs.declared.judging.JudgingRun.{JudgingRun}

-- what is asked of it
abbrev pub choices_in : JudgingRun → Choices
choices_in j = choices_of (seen_by j.streams) j.choices.now

-- it works by these tables and choices; so many of these lines are counted as findings; of the
-- frames so many are left out, and that is the time of the last
pub record WorksBy (k : Rows × Choices) (frames : List Frame) (judging : JudgingRun)
    (dues : List Due) : Type 0 where
  pub tables_are : judging.streams.tables.now ≡ k.0
  pub choices_are : choices_in judging ≡ k.1
  pub findings_are : judging.findings ≡ min (findings_in (lines_of dues)) most_counted
  pub left_out_are : judging.left_out ≡ min (left_out_of k.0 k.1 frames) most_counted
  pub latest_is : judging.latest ≡ latest_of frames

-- this may be the end of the recordings, by the end that is said, or after these frames
abbrev pub IsEndFor : Option ℕ → List Frame → ℕ → Type 0
IsEndFor None frames until = latest_of frames ≤ until
IsEndFor (Some end) frames until = until ≡ end

-- and once it is known
abbrev pub MayEnd : Option ℕ → List Frame → (ended : Option ℕ) → ℕ → Type 0
MayEnd said frames None until = IsEndFor said frames until
MayEnd said frames (Some end) until = until ≡ end

-- the streams stand for the frames and the lines, if this is the end; until the last frame came all
-- that is told has moments before `time`
pub record StandsIf (t : Rows) (c : Choices) (last : Bool) (until : ℕ) (frames : List Frame)
    (dues : List Due) (time : ℕ) (s : Streams) : Type 0 where
  pub streams : StreamsStand t c until frames dues time s
  pub early : last ≡ false → AllByRecursion (λ d. d.moment < time) dues

-- the end came before this time, by what is said; or all frames came
abbrev pub IsEnding : (last : Bool) → Option ℕ → List Frame → (time end : ℕ) → Type 0
IsEnding false said frames time end = (said ≡ Some end) × (end < time)
IsEnding true said frames time end = end ≡ until_or said frames

-- the streams stand for these frames, which go by time, and these lines, whichever end comes
pub record Stands (k : Rows × Choices) (last : Bool) (time : ℕ) (j : JudgingRun)
    (frames : List Frame) (dues : List Due) : Type 0 where
  pub all : (until : ℕ) → MayEnd k.1.until frames j.streams.ended until
      → StandsIf k.0 k.1 last until frames dues time j.streams
  pub by_time : AreByTime frames
  pub running : (end : ℕ) → j.streams.ended ≡ None → k.1.until ≡ Some end → time ≤ end
  pub ends : (end : ℕ) → j.streams.ended ≡ Some end → IsEnding last k.1.until frames time end

-- of these frames just these lines are told
abbrev pub HasTold : Rows × Choices → (last : Bool) → (time : ℕ) → JudgingRun → List Frame →
    List Due → Type 0
HasTold k last time j frames dues = WorksBy k frames j dues × Stands k last time j frames dues

-- it may tell on to a time what is due before that one
pub record GoesOn (k : Rows × Choices) (last : Bool) (time to : ℕ) (before ended : Option ℕ)
    (frames : List Frame) : Type 0 where
  pub later : time ≤ to
  pub running : ended ≡ None → before ≡ Some to
  pub early : last ≡ false → before ≡ Some to
  pub said : (end : ℕ) → ended ≡ None → k.1.until ≡ Some end → to ≤ end
  pub ends : (end : ℕ) → ended ≡ Some end → IsEnding last k.1.until frames to end

-- of the frames of a run all lines of moments before the time of the last one are told, whatever
-- comes
pub record IsJudgedSoFar (k : Rows × Choices) (j : JudgingRun) (frames : List Frame)
    (dues : List Due) : Type 0 where
  pub works : WorksBy k frames j dues
  pub stands : Stands k false (latest_of frames) j frames dues
  pub early : AreDueEarly k (latest_of frames) frames dues

-- and at the end, once nothing is due
pub record IsJudgedToEnd (k : Rows × Choices) (j : JudgingRun) (frames : List Frame)
    (dues : List Due) : Type 0 where
  pub works : WorksBy k frames j dues
  pub time : ℕ
  pub stands : Stands k true time j frames dues
  pub ended : is_some j.streams.ended ≡ true
  pub nothing_due : IsNothingDue k.0 None j.streams.kept

-- and that is written
abbrev pub TellsItems : Rows × Choices → JudgingRun → Option (List ℕ) → Option (List ℕ) →
    List (Item Seen) → Type 0
TellsItems k j old new past = (dues : List Due) × IsJudgedSoFar k j (frames_of past) dues
    × Appends old new (lines_text (lines_of dues))

abbrev pub TellsToEnd : Rows × Choices → JudgingRun → Option (List ℕ) → Option (List ℕ) →
    List (Item Seen) → Type 0
TellsToEnd k j old new past = (dues : List Due) × IsJudgedToEnd k j (frames_of past) dues
    × Appends old new (lines_text (lines_of dues))

-- that is the answer by all lines, once all is told
abbrev pub CountsAll : JudgingRun → Conclusion → Type 0
CountsAll j last = (k : Rows × Choices) (start end : Option (List ℕ)) (past : List (Item Seen)) →
    TellsToEnd k j start end past → WritesLines start end (AreAllLines k (frames_of past)) last

-- ---- what the calls of a run do; `done` says what holds where one did its work, else memory was
-- refused

-- these lines, the oldest first, are told behind those
abbrev pub told_by : (more : List Due) → List Due → List Due
told_by more dues = reverse more ++ dues

-- the recordings end at `until`, as may be said, and no frame is of a later time: the same is told,
-- up to no earlier time, and the end is known
abbrev pub ClosesAt : (Type 0 → Type 0) → (until : ℕ) → JudgingRun → JudgingRun →
    (before after : List Due) → Type 0
ClosesAt done until old new before after =
    (k : Rows × Choices) (last : Bool) (time to : ℕ) (frames : List Frame) (dues : List Due) →
    time ≤ until → until ≤ to → latest_of frames ≤ until → IsEndFor k.1.until frames until →
    ((end : ℕ) → k.1.until ≡ Some end → until ≤ end) →
    IsEnding last k.1.until frames to until → old.streams.ended ≡ None →
    HasTold k false time old frames (told_by before dues) →
    done (HasTold k last to new frames (told_by after dues) × (new.streams.ended ≡ Some until))

-- what is due before this time, which isn't earlier than any frame's, is told
abbrev pub Reaches : (Type 0 → Type 0) → (time : ℕ) → JudgingRun → JudgingRun →
    (before after : List Due) → Type 0
Reaches done time old new before after =
    (k : Rows × Choices) (to : ℕ) (frames : List Frame) (dues : List Due) →
    to ≤ time → latest_of frames ≤ to →
    HasTold k false to old frames (told_by before dues) →
    done (HasTold k false time new frames (told_by after dues)
    × IsNothingDue k.0 (Some time) new.streams.kept)

-- a frame of this time, which isn't earlier than those before it, is the newest of those that the
-- streams stand for
abbrev pub TakesNext : (Type 0 → Type 0) → JudgingRun → JudgingRun → (time : ℕ) → Frame → Type 0
TakesNext done old new time x =
    (k : Rows × Choices) (frames : List Frame) (dues : List Due) →
    old.streams.tables.now ≡ k.0 →
    choices_in old ≡ k.1 →
    latest_of frames ≤ time → length frames + 1 < most_held →
    Stands k false time old frames dues →
    done (Stands k false time new (x ∷ frames) dues)

-- it is the newest of those that are judged, once its time is reached
abbrev pub Follows : (Type 0 → Type 0) → JudgingRun → JudgingRun → (time : ℕ) → Frame → Type 0
Follows done old new time x =
    (k : Rows × Choices) (frames : List Frame) (dues : List Due) →
    x.arrival.time ≡ time → latest_of frames ≤ time → length frames + 1 < most_held →
    HasTold k false time old frames dues → IsNothingDue k.0 (Some time) old.streams.kept →
    done (IsJudgedSoFar k new (x ∷ frames) dues)

-- all is told, the recordings having ended
abbrev pub Finishes : (Type 0 → Type 0) → JudgingRun → JudgingRun → (before after : List Due) →
    Type 0
Finishes done old new before after =
    (k : Rows × Choices) (frames : List Frame) (dues : List Due) →
    HasTold k false (latest_of frames) old frames (told_by before dues) →
    done (IsJudgedToEnd k new frames (told_by after dues))
