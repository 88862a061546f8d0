-- What a run answers and writes, whatever it judges and whatever gives it its frames. A list of
-- lines has the oldest first, one of frames the newest.
use Rattle.std.specs.Prelude.{ℕ, ◌≡◌, ◌⊎◌, Bool, true, false, List, Option, None, Some, IfSome, Result, Ok, Err, nat_lt, if◌then◌else◌}
use Rattle.std.specs.Option.{option_or}
use Rattle.afdx_config.specs.Rows.{Rows}
use Rattle.std.specs.Io.KnownBytes.{Appends}
use Rattle.afdx_input_lines.specs.Calls.{AppendsFront}
use Rattle.afdx_input_sources.specs.Causes.{cause_of}
use Rattle.afdx_input_sources.specs.Engine.{Item}
use Rattle.afdx_input_runs.specs.Arrivals.{ByCause}
use Rattle.afdx_input_runs.specs.Joining.{Frame, frames_of}
use Rattle.afdx_input_runs.specs.SeenFrames.{absent_of, lost_of}
use Rattle.afdx_input_runs.specs.declared.seen.Seen.{Seen}
use Rattle.afdx_input_runs.specs.declared.seen_frames.SeenCount.{SeenCount}
use Rattle.afdx_input_lines.specs.declared.fault.RunFault.{RunFault}
use Rattle.afdx_input_lines.specs.declared.fault.RunFault.TheVariants.{Recording}
use Rattle.afdx_input_lines.specs.declared.recording_fault.RecordingFault.TheVariants.{Lossy}
use Rattle.afdx_input_sources.specs.Claims.{Ports, ports_of_one}
use Rattle.afdx_text.specs.ConformLines.{conform_text}
use Rattle.afdx_text.specs.Sinks.{IsOfOutput}
use Rattle.afdx_text.specs.declared.conform_line.Conclusion.{Conclusion}
use Rattle.afdx_text.specs.declared.conform_line.ConformLine.{ConformLine}
use Rattle.afdx_text.specs.declared.conform_line.ConformLine.TheVariants.{Judged}
use Rattle.afdx_command_conform.specs.AllLines.{AreAllLines, AreEarlyLines, AreSomeLines}
use Rattle.afdx_command_conform.specs.Choices.{Choices}
use Rattle.afdx_command_conform.specs.ChoicesOf.{choices_of}
use Rattle.afdx_command_conform.specs.Tapped.{Taps, of_tables}
use Rattle.afdx_command_conform.specs.Written.{Begins, BeginsWhole, Writes, WritesLines, WritesWhole}
use Rattle.afdx_command_conform.specs.declared.choices.Choices as asked
use Rattle.afdx_command_conform.specs.declared.run.RunCounts.{RunCounts}

-- the fault of recorders that lost so many frames, if that matters
abbrev pub loss_told : (is_lossy : Bool) → (lost : ℕ) → Option RunFault
loss_told true lost = None
loss_told false lost = if nat_lt 0 lost then Some (Recording (Lossy lost)) else None

-- what is told in the place of the last line: that an interface isn't there, or else that frames
-- were lost
abbrev pub fault_behind : (is_lossy : Bool) → SeenCount → Option RunFault
fault_behind is_lossy count = option_or (absent_of count) (loss_told is_lossy (lost_of count))

-- ---- by what is judged

-- `Takes` says of items and an answer that a run with this answer took their frames. Of what is
-- judged the others say what it told of items, from what the output held to what it holds: all, to
-- the end; all so far; a beginning; and its answer. The output held `old` and holds `new`.
module _ (Takes : List (Item Seen) → Result SeenCount RunFault → Type 0)
    (Done Told Begun : (start written : Option (List ℕ)) → List (Item Seen) → Type 0)
    (HasCounted : Conclusion → Type 0) (is_lossy : Bool) (old new : Option (List ℕ)) where
  -- all frames were taken and all is told, with that answer; then the output held `written`
  pub record IsToldTo (count : SeenCount) (written : Option (List ℕ)) (last : Conclusion) : Type 0
    where
      pub items : List (Item Seen)
      pub takes : Takes items (Ok count)
      pub done : Done old written items
      pub counted : HasCounted last

  -- not all were: all so far is told; of want of memory, or behind a failed write, or a beginning
  pub record IsToldIn (fault : RunFault) : Type 0 where
    pub items : List (Item Seen)
    pub takes : Takes items (Err fault)
    pub told : ByCause (cause_of fault) (Told old new items)
        (Told old new items ⊎ Begun old new items)

  -- the last line isn't written: for a fault of the recordings, or of the output
  pub record HasNoLast (fault : RunFault) : Type 0 where
    pub count : SeenCount
    pub last : Conclusion
    pub written : Option (List ℕ)
    pub is_told : IsToldTo count written last
    pub why : ((fault_behind is_lossy count ≡ Some fault) × (new ≡ written))
        ⊎ ((fault_behind is_lossy count ≡ None) × IsOfOutput fault
        × AppendsFront written new (conform_text (Judged last)))

  -- the last line is
  pub record HasLast (counted : RunCounts) : Type 0 where
    pub written : Option (List ℕ)
    pub is_told : IsToldTo counted.count written counted.conclusion
    pub none_behind : fault_behind is_lossy counted.count ≡ None
    pub last : Appends written new (conform_text (Judged counted.conclusion))

  abbrev pub RunTells : Result RunCounts RunFault → Type 0
  RunTells (Ok counted) = HasLast counted
  RunTells (Err fault) = IsToldIn fault ⊎ HasNoLast fault

-- ---- by its lines

-- `Takes` is the same. Of frames and lines the others say whether these are all, with that answer;
-- exactly those of moments before the time of the last frame; some of the first. The output held
-- `old` and holds `new`.
module _ (Takes : List (Item Seen) → Result SeenCount RunFault → Type 0)
    (AreAll : List Frame → List ConformLine → Conclusion → Type 0)
    (AreEarly AreFirst : List Frame → List ConformLine → Type 0)
    (is_lossy : Bool) (old new : Option (List ℕ)) where
  -- A run stops before it took all frames. At a fault of the inputs exactly the lines of moments
  -- before the time of the last frame are written; after a failed write, or want of memory, these,
  -- or a beginning of the first lines.
  abbrev pub StopsAmong : RunFault → Type 0
  StopsAmong fault = (items : List (Item Seen)) × Takes items (Err fault)
      × ByCause (cause_of fault) (Writes old new (AreEarly (frames_of items)))
      (Writes old new (AreEarly (frames_of items)) ⊎ Begins old new (AreFirst (frames_of items)))

  -- Or it took them all. All lines are written, and a fault of the recordings is told; or else the
  -- last line isn't, or not all of it.
  abbrev pub StopsBehind : RunFault → Type 0
  StopsBehind fault = (items : List (Item Seen)) × (count : SeenCount) × Takes items (Ok count)
      × (((fault_behind is_lossy count ≡ Some fault)
      × ((last : Conclusion) × WritesLines old new (AreAll (frames_of items)) last))
      ⊎ ((fault_behind is_lossy count ≡ None) × IsOfOutput fault
      × BeginsWhole old new (AreAll (frames_of items))))

  -- all frames were taken, no interface is missing and no frame was lost that matters, and all
  -- lines are written; or it stops with a fault, without a last line
  abbrev pub RunAnswers : Result RunCounts RunFault → Type 0
  RunAnswers (Ok counted) = (items : List (Item Seen)) × Takes items (Ok counted.count)
      × (fault_behind is_lossy counted.count ≡ None)
      × WritesWhole old new (AreAll (frames_of items)) counted.conclusion
  RunAnswers (Err fault) = StopsAmong fault ⊎ StopsBehind fault

-- of one over a switch, by these tables and choices
abbrev pub ConformAnswers : (List (Item Seen) → Result SeenCount RunFault → Type 0) →
    Rows × Choices → (is_lossy : Bool) → (old new : Option (List ℕ)) → Result RunCounts RunFault →
    Type 0
ConformAnswers Takes k = RunAnswers Takes (AreAllLines k) (AreEarlyLines k) (AreSomeLines k)

-- a run by these tables with these choices, of these ports that were recorded, answers so, where
-- the bytes of its inputs are known; an input may say of whom what came is
abbrev pub Answers : {B I : Type 0} → Option B →
    (Ports → B → I → List (Item Seen) → Result SeenCount RunFault → Type 0) → I →
    Rows → Taps → asked.Choices → (old new : Option (List ℕ)) → Result RunCounts RunFault →
    Type 0
Answers known Takes inputs t taps choices old new answer = IfSome known (λ bytes.
    ConformAnswers (Takes (ports_of_one t) bytes inputs)
    (t, choices_of (of_tables t taps) choices)
    choices.is_lossy old new answer)
