-- What a run that polices one link answers and writes, whatever gives it its arrivals.
use Rattle.std.specs.Prelude.{◌≡◌, List, Result}
use Rattle.afdx_police.specs.Rule.{Rule}
use Rattle.afdx_input_lines.specs.declared.fault.RunFault.{RunFault}
use Rattle.afdx_input_lines.specs.declared.frame_line.Heading.{Heading}
use Rattle.afdx_input_sources.specs.Engine.{Item}
use Rattle.afdx_input_sources.specs.Items.{arrivals}
use Rattle.afdx_input_runs.specs.Arrivals.{By}
use Rattle.afdx_input_runs.specs.declared.input_run.InputCount.{InputCount}
use Rattle.afdx_replay.specs.Inputs.{Taking, answer_of}
use Rattle.afdx_replay.specs.policing.Policed.{WritesText, WritesBeginning}
use Rattle.afdx_replay.specs.policing.Text.{counts_of}
use Rattle.afdx_replay.specs.replaying.Replayed.{Known}
use Rattle.afdx_replay.specs.declared.input_ending.InputSummary.{InputSummary}

-- What such a run does that answers so: it has taken some arrivals, counts them, and writes their
-- text; where a device fails, or memory is refused, a beginning of that.
pub record Polices (rule : Rule) (takes : Taking) (old new : Known)
    (answer : Result InputSummary RunFault) : Type 0 where
  pub items : List (Item Heading)
  pub count : Result InputCount RunFault
  pub taken : takes items count
  pub answered : answer ≡ answer_of (counts_of rule 0 (arrivals items)) count
  pub written : By count (WritesText rule old new (arrivals items))
      (WritesText rule old new (arrivals items)) (WritesBeginning rule old new (arrivals items))
