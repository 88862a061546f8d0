-- What is taken of an input of recordings, of one or of two, by the settings of the source.
use Rattle.std.specs.Prelude.{ℕ, ◌≡◌, false, List, ◌++◌, Option, Some, None, Result, Ok, Err}
use Rattle.afdx_frame.specs.declared.by_side.BySide.{BySide}
use Rattle.afdx_input_lines.specs.Watching.{calls_of, device_of, has_failed, is_over}
use Rattle.afdx_input_lines.specs.declared.fault.RunFault.{RunFault}
use Rattle.afdx_input_lines.specs.declared.role.ByRole.{ByRole}
use Rattle.afdx_input_lines.specs.declared.watched.Watched.{Watched}
use Rattle.afdx_input_sources.specs.Causes.{Cause, cause_of, FailedRead, FailedWrite, NoMemory, BadInput}
use Rattle.afdx_input_sources.specs.Engine.{Item}
use Rattle.afdx_input_sources.specs.Becoming.{options_of}
use Rattle.afdx_input_sources.specs.Claims.{ports_of}
use Rattle.afdx_input_sources.specs.MergedSource.{inputs_by_role}
use Rattle.afdx_input_sources.specs.NumberLines.{AreItems, Lines}
use Rattle.afdx_input_sources.specs.OrderedRecording.{OrderedRecording}
use Rattle.afdx_input_sources.specs.Ordering.{Sequence}
use Rattle.afdx_input_runs.specs.RecordingRun.{IsAskedOnce}
use Rattle.afdx_input_sources.specs.Taking.{Taken, AreCutOff, AreCutOffAtOne, sequence_of_bytes, taken_of_both, taken_of_bytes}
use Rattle.afdx_input_runs.specs.TakenRun.{HasNoFault}
use Rattle.afdx_input_sources.specs.declared.counts.Tally.{Tally}
use Rattle.afdx_input_sources.specs.declared.becoming.RecordingOptions.{RecordingOptions}
use Rattle.afdx_input_sources.specs.declared.senders.SystemPorts.{SystemPorts}
use Rattle.afdx_input_sources.specs.declared.timed_numbers.TimedNumbers.{TimedNumbers}
use Rattle.afdx_input_sources.specs.declared.timed_pair.TimedPair.{TimedPair}

-- one that was not over was asked at most once for each byte that it gave, and once more
abbrev pub IsAsked : {R : Type 0} → (R → Option (List ℕ)) → (first last : Watched R) → Type 0
IsAsked remaining first last =
    is_over first ≡ false →
    IsAskedOnce (remaining (device_of first)) (remaining (device_of last))
    (calls_of first) (calls_of last)

-- ---- what is known of lines that were given

-- they are the first of all
abbrev pub AreFirstLines : Taken → Lines → Type 0
AreFirstLines whole lines = (later : Lines) × (whole.lines ≡ later ++ lines)

-- they are all, and there is no fault
pub record AreAllLines (whole : Taken) (lines : Lines) : Type 0 where
  pub over : HasNoFault whole
  pub lines_are : whole.lines ≡ lines

-- this fault stands behind them
abbrev pub StopsBehindAs : Taken → (AreCut : Lines → Type 0) → Lines → RunFault → Cause → Type 0
StopsBehindAs whole AreCut lines fault FailedRead = AreCut lines
StopsBehindAs whole AreCut lines fault FailedWrite = ⊥
StopsBehindAs whole AreCut lines fault NoMemory = AreFirstLines whole lines
StopsBehindAs whole AreCut lines fault BadInput =
    (whole.fault ≡ Some fault) × (whole.lines ≡ lines)

abbrev pub StopsBehindLines : Taken → (AreCut : Lines → Type 0) → Lines → RunFault → Type 0
StopsBehindLines whole AreCut lines fault =
    StopsBehindAs whole AreCut lines fault (cause_of fault)

-- what was given stands for lines of this whole; so many were counted at its end
pub record Takes {H : Type 0} (items_of : Lines → List (Item H)) (whole : Taken)
    (AreCut : Lines → Type 0) (gave ended : List (Item H) → Type 0)
    (stopped : List (Item H) → RunFault → Type 0) (counted : Tally) : Type 0 where
  pub first : (past : List (Item H)) → gave past → AreItems items_of (AreFirstLines whole) past
  pub all : (past : List (Item H)) → ended past → AreItems items_of (AreAllLines whole) past
  pub tally : (past : List (Item H)) → ended past → counted ≡ whole.tally
  pub stops : (past : List (Item H)) (fault : RunFault) → stopped past fault →
      AreItems items_of (λ lines. StopsBehindLines whole AreCut lines fault) past

-- with this answer a run has taken these lines of the whole `whole` of recordings; `AreCut` says
-- what was read until a read failed
module _ (whole : Taken) (AreCut : Lines → Type 0) (lines : Lines) where
  -- all before this fault; all that was read until a read failed; or, after a failed write or want
  -- of memory, some first ones
  abbrev pub StopsTaking : RunFault → Cause → Type 0
  StopsTaking fault FailedRead = AreCut lines
  StopsTaking fault BadInput = (whole.fault ≡ Some fault) × (whole.lines ≡ lines)
  StopsTaking fault _ = AreFirstLines whole lines

  abbrev pub TakesLines : Result Tally RunFault → Type 0
  TakesLines (Ok tally) = AreAllLines whole lines × (tally ≡ whole.tally)
  TakesLines (Err fault) = StopsTaking fault (cause_of fault)

-- ---- of one recording

abbrev pub Set : Type 0
Set = (RecordingOptions × SystemPorts) × ℕ

abbrev set_of : OrderedRecording → Set
set_of source = ((source.source.options, source.source.ports), source.most)

abbrev pub way_of_one : TimedNumbers OrderedRecording → Set × Option ℕ
way_of_one source = (set_of source.numbers, source.clock.said)

-- so many arrivals may come late, and time 0 is that moment, as the options say
pub record IsSetOne (s : Set × Option ℕ) : Type 0 where
  pub order : s.0.1 ≡ s.0.0.0.reorder
  pub said : s.1 ≡ s.0.0.0.origin

abbrev pub whole_of_one : Set × Option ℕ → List ℕ → Taken
whole_of_one s bytes = taken_of_bytes (options_of s.0.0.0) (ports_of s.0.0.1) bytes

abbrev pub CutOfOne : {R : Type 0} → (R → Option (List ℕ)) → Set × Option ℕ → List ℕ →
    (rest : Watched R) → Lines → Type 0
CutOfOne remaining s bytes rest lines =
    AreCutOff (options_of s.0.0.0) (ports_of s.0.0.1) bytes (remaining (device_of rest)) lines

-- ---- of two

abbrev pub both : Option (List ℕ) → Option (List ℕ) → Option (List ℕ × List ℕ)
both (Some a) (Some b) = Some (a, b)
both (Some a) None = None
both None b = None

-- the bytes that two inputs still give, where both are known
abbrev pub bytes_of_both : {R : Type 0} → (R → Option (List ℕ)) → (inputs : BySide (Watched R)) →
    Option (List ℕ × List ℕ)
bytes_of_both remaining inputs =
    both (remaining (device_of inputs.a)) (remaining (device_of inputs.b))

abbrev pub bytes_by_role : {R : Type 0} → (R → Option (List ℕ)) → (inputs : ByRole (Watched R)) →
    Option (List ℕ × List ℕ)
bytes_by_role remaining inputs = bytes_of_both remaining (inputs_by_role inputs)

abbrev pub way_of_two : TimedPair OrderedRecording → Set × Set × Option ℕ
way_of_two source =
    (set_of source.pair.first.source, set_of source.pair.second.source, source.clock.said)

pub record IsSetTwo (s : Set × Set × Option ℕ) : Type 0 where
  pub order_a : s.0.1 ≡ s.0.0.0.reorder
  pub order_b : s.1.1 ≡ s.1.0.0.reorder

abbrev pub of_set : Set → List ℕ → Sequence
of_set s bytes = sequence_of_bytes (options_of s.0.0) (ports_of s.0.1) bytes

abbrev pub whole_of_two : Set × Set × Option ℕ → List ℕ × List ℕ → Taken
whole_of_two s bytes = taken_of_both s.2 (of_set s.0 bytes.0) (of_set s.1 bytes.1)

abbrev pub CutOfTwo : {R : Type 0} → (R → Option (List ℕ)) → Set × Set × Option ℕ →
    List ℕ × List ℕ → (rest : BySide (Watched R)) → Lines → Type 0
CutOfTwo remaining s bytes rest lines =
    AreCutOffAtOne s.2 (of_set s.0) (of_set s.1) (has_failed rest.a) (has_failed rest.b)
    bytes.0 bytes.1 (remaining (device_of rest.a)) (remaining (device_of rest.b)) lines
