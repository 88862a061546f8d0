-- What a run over what systems sent works with, and has told. Lists of frames have the newest
-- first.
use Rattle.std.specs.Prelude.{ℕ, ◌≡◌, ◌<◌, ◌+◌, ◌^◌, List, [], ◌++◌, length, map, reverse, Option, Some, None, min}
use Rattle.std.specs.Io.KnownBytes.{Appends}
use Rattle.afdx_input_lines.specs.Calls.{AppendsFront}
use Rattle.afdx_input_sources.specs.Engine.{Item}
use Rattle.afdx_input_runs.specs.Joining.{Frame, frames_of}
use Rattle.afdx_input_runs.specs.declared.seen.Seen.{Seen}
use Rattle.afdx_police.specs.Arrival.{Arrival}
use Rattle.afdx_senders.specs.History.{HaveTold, IsNoSooner}
use Rattle.afdx_senders.specs.Lines.{Line, line_of}
use Rattle.afdx_senders.specs.Settling.{IsEnd}
use Rattle.afdx_senders.specs.Setups.{Setup, ending}
use Rattle.afdx_senders.specs.Telling.{AreToldBefore, AreToldEarly, HaveBegun, IsEndSince}
use Rattle.afdx_senders.specs.declared.sender_line.SenderLine.{SenderLine}
use Rattle.afdx_senders.specs.declared.senders.Senders.{Senders}
use Rattle.afdx_text.specs.declared.conform_line.Conclusion.{Conclusion}
use Rattle.afdx_command_conform.specs.Choices.{latest_of}
use Rattle.afdx_command_conform.specs.Telling.{findings_in, lines_text, most_counted}
use Rattle.afdx_command_conform.specs.Written.{WritesLines}
use Rattle.afdx_command_senders.specs.Asked.{asked_of, came_in, left_out_of}
use Rattle.afdx_command_senders.specs.SenderLines.{AreAllLines, RunRules, whole_setup}
use Rattle.afdx_command_senders.specs.SenderTexts.{told_lines}
use Rattle.afdx_command_senders.specs.declared.judging.SendersRun.{SendersRun}

-- the text of what is told
abbrev pub told_text : List Line → List ℕ
told_text told = lines_text (told_lines told)

-- these, of which the oldest is the first, as they are told
abbrev pub told_in : List SenderLine → List Line
told_in lines = reverse (map line_of lines)

-- it works by these rules; so many of the frames are left out, and that is the time of the newest
pub record WorksBy (k : RunRules) (frames : List Frame) (run : SendersRun) : Type 0 where
  pub tables : run.tables.now ≡ k.0.tables
  pub asked : asked_of k.0.tables k.1.taps run.asked ≡ k.1
  pub left_out : run.left_out ≡ min (left_out_of k.1 frames) most_counted
  pub latest : run.latest ≡ latest_of frames
  pub few : length frames < 2 ^ 64

-- that is written, and so many lines of it are counted
pub record HasWritten (run : SendersRun) (old new : Option (List ℕ)) (told : List Line) : Type 0
  where
    pub written : Appends old new (told_text told)
    pub findings : run.findings ≡ min (findings_in (told_lines told)) most_counted

-- by whatever end may come from that time on, that is told of what came before it
abbrev pub HaveToldBefore : RunRules → ℕ → List Arrival → List Line → Senders → Type 0
HaveToldBefore k time xs told senders = (until : ℕ) → IsEndSince k.1.run.until time until →
    HaveTold (ending until k.0) (Some time) xs told senders

-- of the frames of a run all lines of moments before the time of the newest are written
pub record TellsSoFar (k : RunRules) (run : SendersRun) (old new : Option (List ℕ))
    (frames : List Frame) : Type 0 where
  pub told : List Line
  pub works : WorksBy k frames run
  pub writes : HasWritten run old new told
  pub have : HaveToldBefore k (latest_of frames) (came_in k.1 frames) told run.senders
  pub early : AreToldEarly k.0 k.1.run.until (latest_of frames) (came_in k.1 frames) told

-- at the end all lines are
pub record TellsToEnd (k : RunRules) (run : SendersRun) (old new : Option (List ℕ))
    (frames : List Frame) : Type 0 where
  pub told : List Line
  pub works : WorksBy k frames run
  pub writes : HasWritten run old new told
  pub have : HaveTold (whole_setup k frames) None (came_in k.1 frames) told run.senders
  pub all : AreToldBefore (whole_setup k frames) None (came_in k.1 frames) told

-- nothing came yet, and nothing is told
pub record IsNewRun (k : RunRules) (run : SendersRun) : Type 0 where
  pub works : WorksBy k [] run
  pub findings : run.findings ≡ 0
  pub have : HaveToldBefore k 0 [] [] run.senders
  pub early : AreToldEarly k.0 k.1.run.until 0 [] []

abbrev pub TellsItems : RunRules → SendersRun → (old new : Option (List ℕ)) → List (Item Seen) →
    Type 0
TellsItems k run old new past = TellsSoFar k run old new (frames_of past)

abbrev pub TellsItemsToEnd : RunRules → SendersRun → (old new : Option (List ℕ)) →
    List (Item Seen) → Type 0
TellsItemsToEnd k run old new past = TellsToEnd k run old new (frames_of past)

-- that is the answer by all lines, once all is told
abbrev pub CountsAll : SendersRun → Conclusion → Type 0
CountsAll run last = (k : RunRules) (start end : Option (List ℕ)) (past : List (Item Seen)) →
    TellsItemsToEnd k run start end past →
    WritesLines start end (AreAllLines k (frames_of past)) last

-- ---- what is told in a call, by whatever setup

-- these lines are told, too, and then all of moments before that time are
abbrev pub TellsUpTo : (before end : Option ℕ) → (old new : Senders) → List Line → Type 0
TellsUpTo before end old new more =
    (z : Setup) (by : Option ℕ) (xs : List Arrival) (told : List Line) →
    HaveTold z by xs told old → IsNoSooner by before → IsEnd end before z.asked.until →
    HaveTold z before xs (more ++ told) new × AreToldBefore z before xs (more ++ told)

-- these are told, too: all of moments before some time that is no later
abbrev pub TellsSome : (before end : Option ℕ) → (old new : Senders) → List Line → Type 0
TellsSome before end old new more =
    (z : Setup) (by : Option ℕ) (xs : List Arrival) (told : List Line) →
    HaveTold z by xs told old → IsNoSooner by before → IsEnd end before z.asked.until →
    (b : Option ℕ) × IsNoSooner b before × HaveTold z b xs (more ++ told) new

-- these are, or a beginning of them, and they are the first
abbrev pub BeginsUpTo : (before end : Option ℕ) → Senders → List Line → Type 0
BeginsUpTo before end old more =
    (z : Setup) (by : Option ℕ) (xs : List Arrival) (told : List Line) →
    HaveTold z by xs told old → IsNoSooner by before → IsEnd end before z.asked.until →
    HaveBegun z before xs (more ++ told)

-- but for the number of findings
pub record IsSameButFindings (old new : SendersRun) : Type 0 where
  pub tables : new.tables ≡ old.tables
  pub asked : new.asked ≡ old.asked
  pub senders : new.senders ≡ old.senders
  pub latest : new.latest ≡ old.latest
  pub left_out : new.left_out ≡ old.left_out

-- but for what stands for the senders
pub record IsSameButSenders (old new : SendersRun) : Type 0 where
  pub tables : new.tables ≡ old.tables
  pub asked : new.asked ≡ old.asked
  pub latest : new.latest ≡ old.latest
  pub findings : new.findings ≡ old.findings
  pub left_out : new.left_out ≡ old.left_out

-- but for that, and the number of findings
pub record IsSameButTold (old new : SendersRun) : Type 0 where
  pub tables : new.tables ≡ old.tables
  pub asked : new.asked ≡ old.asked
  pub latest : new.latest ≡ old.latest
  pub left_out : new.left_out ≡ old.left_out

-- what a call tells: these lines are written and counted
pub record TellsMore (old new : SendersRun) (before after : Option (List ℕ)) (more : List Line) :
    Type 0 where
  pub written : Appends before after (told_text more)
  pub findings : (n : ℕ) → old.findings ≡ min n most_counted →
      new.findings ≡ min (n + findings_in (told_lines more)) most_counted

-- and what it comes to: all up to a time are told
pub record HasToldUpTo (before end : Option ℕ) (old new : SendersRun)
    (start written : Option (List ℕ)) : Type 0 where
  pub more : List Line
  pub tells : TellsMore old new start written more
  pub up_to : TellsUpTo before end old.senders new.senders more

-- or not: a beginning of some lines is written, which are the first
pub record HasBegunUpTo (before end : Option ℕ) (old : SendersRun)
    (start written : Option (List ℕ)) : Type 0 where
  pub more : List Line
  pub begun : AppendsFront start written (told_text more)
  pub up_to : BeginsUpTo before end old.senders more

-- a time may be told up to: by some setup all is told of what came before
abbrev pub MayTellUpTo : (before end : Option ℕ) → Senders → Type 0
MayTellUpTo before end senders =
    (z : Setup) × (by : Option ℕ) × (xs : List Arrival) × (told : List Line)
    × HaveTold z by xs told senders × IsNoSooner by before × IsEnd end before z.asked.until

-- but for what stands for the senders and what is left out
pub record IsSameButTaken (old new : SendersRun) : Type 0 where
  pub tables : new.tables ≡ old.tables
  pub asked : new.asked ≡ old.asked
  pub latest : new.latest ≡ old.latest
  pub findings : new.findings ≡ old.findings
