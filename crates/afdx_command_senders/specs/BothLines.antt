-- What a run over a switch and the systems that send to it writes of the frames of both roles: all
-- lines, with the answer; those of moments before the time of the newest frame. Lists of frames
-- have the newest first, those of lines the oldest.
use Rattle.std.specs.Prelude.{◌≡◌, ◌⊎◌, List, Some, None}
use Rattle.afdx_config.specs.Rows.{Rows}
use Rattle.afdx_input_runs.specs.Joining.{Frame}
use Rattle.afdx_senders.specs.Lines.{Line}
use Rattle.afdx_senders.specs.Telling.{AreToldBefore, AreToldEarly}
use Rattle.afdx_text.specs.declared.conform_line.Conclusion.{Conclusion}
use Rattle.afdx_text.specs.declared.conform_line.ConformLine.{ConformLine}
use Rattle.afdx_command_conform.specs.Beginning.{AreDueEarly}
use Rattle.afdx_command_conform.specs.Choices.{Choices, latest_of, until_or}
use Rattle.afdx_command_conform.specs.Counting.{totals_of}
use Rattle.afdx_command_conform.specs.Lines.{AreLines}
use Rattle.afdx_command_conform.specs.Lines.{Due}
use Rattle.afdx_command_conform.specs.RunLaws.{AreByTime}
use Rattle.afdx_command_conform.specs.Totals.{concluded}
use Rattle.afdx_command_conform.specs.declared.totals.Totals.{Totals}
use Rattle.afdx_command_senders.specs.Asked.{came_in}
use Rattle.afdx_command_senders.specs.BothTold.{AreJoined, Told, both_lines}
use Rattle.afdx_command_senders.specs.SenderLines.{RunRules, found_of, sent_of, whole_setup}

-- by what the switch is judged
abbrev pub switch_rules : RunRules → Rows × Choices
switch_rules k = (k.0.tables, k.1.run)

module _ (k : RunRules) (frames : List Frame) where
  -- what is counted of the switch, where these are all its lines, with the findings of both
  abbrev pub both_totals : List Due → List ConformLine → Totals
  both_totals dues lines =
      record (totals_of (switch_rules k) frames dues) { findings = found_of k frames lines }

  -- the answer, as that on the switch with the findings of both, and what is counted of systems
  abbrev pub both_concluded : List Due → List ConformLine → Conclusion
  both_concluded dues lines =
      record (concluded (both_totals dues lines)) { senders = Some (sent_of k frames) }

  -- all, where no more of these frames come, which go by time, and that is the answer
  pub record AreBothLines (lines : List ConformLine) (last : Conclusion) : Type 0 where
    pub by_time : AreByTime frames
    pub told : List Line
    pub dues : List Due
    pub all : List Told
    pub joined : AreJoined told dues all
    pub are : lines ≡ both_lines all
    pub are_told : AreToldBefore (whole_setup k frames) None (came_in k.1 frames) told
    pub are_lines : AreLines k.0.tables k.1.run (until_or k.1.run.until frames) frames dues
    pub last_is : last ≡ both_concluded dues lines

  -- whatever else comes and whenever the recordings end: exactly those of moments before the time
  -- of the newest frame
  pub record AreBothEarly (lines : List ConformLine) : Type 0 where
    pub told : List Line
    pub dues : List Due
    pub all : List Told
    pub joined : AreJoined told dues all
    pub are : lines ≡ both_lines all
    pub are_told :
        AreToldEarly k.0 k.1.run.until (latest_of frames) (came_in k.1 frames) told
    pub are_due : AreDueEarly (switch_rules k) (latest_of frames) frames dues

  -- these, or all
  abbrev pub AreBothSome : List ConformLine → Type 0
  AreBothSome lines = AreBothEarly lines ⊎ ((last : Conclusion) × AreBothLines lines last)
