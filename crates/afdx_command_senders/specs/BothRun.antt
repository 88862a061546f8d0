-- What a run over a switch and the systems that send to it works with, and has told. Lists of
-- frames have the newest first.
use Rattle.std.specs.Prelude.{ℕ, ◌≡◌, List, Option, None, min}
use Rattle.std.specs.Io.KnownBytes.{Appends}
use Rattle.afdx_input_sources.specs.Engine.{Item}
use Rattle.afdx_input_runs.specs.Joining.{Frame, frames_of}
use Rattle.afdx_input_runs.specs.declared.seen.Seen.{Seen}
use Rattle.afdx_senders.specs.History.{HaveTold}
use Rattle.afdx_senders.specs.Lines.{Line}
use Rattle.afdx_senders.specs.Telling.{AreToldBefore, AreToldEarly}
use Rattle.afdx_text.specs.declared.conform_line.Conclusion.{Conclusion}
use Rattle.afdx_command_conform.specs.Choices.{latest_of}
use Rattle.afdx_command_conform.specs.Lines.{Due}
use Rattle.afdx_command_conform.specs.Telling.{findings_in, lines_text, most_counted}
use Rattle.afdx_command_conform.specs.Told.{IsJudgedSoFar, IsJudgedToEnd}
use Rattle.afdx_command_conform.specs.Written.{WritesLines}
use Rattle.afdx_command_senders.specs.Asked.{came_in}
use Rattle.afdx_command_senders.specs.BothLines.{AreBothLines, switch_rules}
use Rattle.afdx_command_senders.specs.BothTold.{AreJoined, Told, both_lines}
use Rattle.afdx_command_senders.specs.SenderLines.{RunRules, whole_setup}
use Rattle.afdx_command_senders.specs.SenderRun.{HaveToldBefore, WorksBy}
use Rattle.afdx_command_senders.specs.SenderTexts.{told_lines}
use Rattle.afdx_command_senders.specs.declared.both.BothRun.{BothRun}
use Rattle.afdx_command_senders.specs.declared.judging.SendersRun.{SendersRun}

-- of the systems it works so, and so many findings are counted
pub record CountsOf (k : RunRules) (frames : List Frame) (run : SendersRun) (told : List Line) :
    Type 0 where
  pub works : WorksBy k frames run
  pub findings : run.findings ≡ min (findings_in (told_lines told)) most_counted

-- what is told is written, in one order
pub record AreWritten (old new : Option (List ℕ)) (told : List Line) (dues : List Due) : Type 0
  where
    pub all : List Told
    pub joined : AreJoined told dues all
    pub written : Appends old new (lines_text (both_lines all))

-- of the frames of a run all lines of moments before the time of the newest are written
pub record BothTellSoFar (k : RunRules) (run : BothRun) (old new : Option (List ℕ))
    (frames : List Frame) : Type 0 where
  pub told : List Line
  pub dues : List Due
  pub are : AreWritten old new told dues
  pub judged : IsJudgedSoFar (switch_rules k) run.switch frames dues
  pub counts : CountsOf k frames run.senders told
  pub have : HaveToldBefore k (latest_of frames) (came_in k.1 frames) told run.senders.senders
  pub early : AreToldEarly k.0 k.1.run.until (latest_of frames) (came_in k.1 frames) told

-- at the end all lines are
pub record BothTellToEnd (k : RunRules) (run : BothRun) (old new : Option (List ℕ))
    (frames : List Frame) : Type 0 where
  pub told : List Line
  pub dues : List Due
  pub are : AreWritten old new told dues
  pub judged : IsJudgedToEnd (switch_rules k) run.switch frames dues
  pub counts : CountsOf k frames run.senders told
  pub have : HaveTold (whole_setup k frames) None (came_in k.1 frames) told run.senders.senders
  pub all : AreToldBefore (whole_setup k frames) None (came_in k.1 frames) told

abbrev pub BothTellItems : RunRules → BothRun → (old new : Option (List ℕ)) →
    List (Item Seen) → Type 0
BothTellItems k run old new past = BothTellSoFar k run old new (frames_of past)

abbrev pub BothTellItemsToEnd : RunRules → BothRun → (old new : Option (List ℕ)) →
    List (Item Seen) → Type 0
BothTellItemsToEnd k run old new past = BothTellToEnd k run old new (frames_of past)

-- that is the answer by all lines, once all is told
abbrev pub BothCountsAll : BothRun → Conclusion → Type 0
BothCountsAll run last = (k : RunRules) (start end : Option (List ℕ)) (past : List (Item Seen)) →
    BothTellItemsToEnd k run start end past →
    WritesLines start end (AreBothLines k (frames_of past)) last
