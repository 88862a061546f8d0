-- What a run over what systems sent writes of the frames of both roles: all lines, with the answer;
-- those of moments before the time of the newest frame; the first ones. Lists of frames have the
-- newest first, those of lines the oldest.
use Rattle.std.specs.Prelude.{ℕ, ◌≡◌, ◌⊎◌, List, min, nat_eq, nat_lt, if◌then◌else◌, Option, Some, None}
use Rattle.afdx_input_runs.specs.Joining.{Frame}
use Rattle.afdx_lawful.specs.Tallies.{counted}
use Rattle.afdx_senders.specs.SenderCounts.{alone_in, cut_in, sent_in}
use Rattle.afdx_senders.specs.Lines.{Line}
use Rattle.afdx_senders.specs.Setups.{Setup, ending}
use Rattle.afdx_senders.specs.Telling.{AreToldBefore, AreToldEarly, HaveBegun, IsEndSince}
use Rattle.afdx_text.specs.declared.conform_line.Answer.{Answer}
use Rattle.afdx_text.specs.declared.conform_line.Answer.TheVariants.{Conforms, Deviates, Undecided}
use Rattle.afdx_text.specs.declared.conform_line.Conclusion.{Conclusion}
use Rattle.afdx_text.specs.declared.conform_line.ConformLine.{ConformLine}
use Rattle.afdx_text.specs.declared.sender_lines.SenderTotals.{SenderTotals}
use Rattle.afdx_command_conform.specs.Choices.{latest_of, until_or}
use Rattle.afdx_command_conform.specs.Tapped.{unseen_of}
use Rattle.afdx_input_sources.specs.Tapping.{no_taps}
use Rattle.afdx_command_conform.specs.Sight.{of_tables}
use Rattle.afdx_command_conform.specs.Telling.{findings_in, most_counted}
use Rattle.afdx_command_senders.specs.Asked.{Asked, came_in, left_out_of}
use Rattle.afdx_command_senders.specs.SenderTexts.{told_lines}

-- there are findings; else it conforms where some frame has none
abbrev pub answer_by : (findings sent : ℕ) → Answer
answer_by findings sent =
    if nat_lt 0 findings then Deviates findings else if nat_eq sent 0 then Undecided else Conforms

-- when the recordings end whose last line has this time, if an end may be said
abbrev pub end_by : (said : Option ℕ) → (latest : ℕ) → ℕ
end_by None latest = latest
end_by (Some until) latest = until

-- by what a run goes: by what senders are judged, and what it is asked
abbrev pub RunRules : Type 0
RunRules = Setup × Asked

module _ (k : RunRules) (frames : List Frame) where
  -- when the recordings end, where no more frames come
  abbrev pub end_of : ℕ
  end_of = until_or k.1.run.until frames

  abbrev pub whole_setup : Setup
  whole_setup = ending end_of k.0

  -- what is counted of senders
  abbrev pub sent_of : SenderTotals
  sent_of = record {
    sent = counted (sent_in whole_setup (came_in k.1 frames));
    cut = counted (cut_in whole_setup (came_in k.1 frames));
    alone = alone_in whole_setup;
  }

  abbrev pub found_of : List ConformLine → ℕ
  found_of lines = min (findings_in lines) most_counted

  -- the answer, where these are all lines: no stream of the switch is judged
  abbrev pub concluded : List ConformLine → Conclusion
  concluded lines = record {
    answer = answer_by (found_of lines) sent_of.sent;
    explained = 0;
    waiting = 0;
    uncertain = 0;
    left_out = min (left_out_of k.1 frames) most_counted;
    unseen = unseen_of k.0.tables (of_tables k.0.tables no_taps);
    idle = 0;
    senders = Some sent_of;
  }

  -- all, where no more frames come, and that is the answer
  pub record AreAllLines (lines : List ConformLine) (last : Conclusion) : Type 0 where
    pub told : List Line
    pub are : lines ≡ told_lines told
    pub are_all : AreToldBefore whole_setup None (came_in k.1 frames) told
    pub last_is : last ≡ concluded lines

  -- whatever else comes and whenever the recordings end: exactly those of moments before the time
  -- of the newest frame
  pub record AreEarlyLines (lines : List ConformLine) : Type 0 where
    pub told : List Line
    pub are : lines ≡ told_lines told
    pub are_early :
        AreToldEarly k.0 k.1.run.until (latest_of frames) (came_in k.1 frames) told

  -- the first of all, whatever else comes and whenever the recordings end
  abbrev pub HaveBegunEarly : List Line → Type 0
  HaveBegunEarly told = (until : ℕ) → IsEndSince k.1.run.until (latest_of frames) until →
      HaveBegun (ending until k.0) (Some (latest_of frames)) (came_in k.1 frames) told

  -- or where no more comes
  abbrev pub HaveBegunLast : List Line → Type 0
  HaveBegunLast told = HaveBegun whole_setup None (came_in k.1 frames) told

  pub record AreFirstLines (lines : List ConformLine) : Type 0 where
    pub told : List Line
    pub are : lines ≡ told_lines told
    pub are_first : HaveBegunEarly told ⊎ HaveBegunLast told
