-- What a command that polices one link is given, and how it ends.
use Rattle.std.specs.Prelude.{ℕ, ◌≤◌, Bool, List, Option, Result, IfSome}
use Rattle.afdx_command_tables.specs.Commands.{EndsAs}
use Rattle.afdx_command_tables.specs.declared.ending.Ended.{Ended}
use Rattle.afdx_command_tables.specs.declared.summary.Summary.{Summary}
use Rattle.afdx_frame.specs.Lengths.{least_frame}
use Rattle.afdx_frame.specs.declared.link.Policing.TheVariants.{Byte}
use Rattle.afdx_input_lines.specs.Watching.{device_of}
use Rattle.afdx_input_lines.specs.declared.fault.RunFault.{RunFault}
use Rattle.afdx_input_lines.specs.declared.watched.Watched.{Watched}
use Rattle.afdx_police.specs.Rule.{IsRule, Rule, rule_with}
use Rattle.afdx_replay.specs.declared.policing.command.CommandedRule.{CommandedRule}
use Rattle.afdx_replay.specs.policing.Policed.{Answers}

-- the rule that the command is given
abbrev pub commanded_rule : CommandedRule → Rule
commanded_rule given =
    rule_with given.vl given.port given.bag_ms given.lmin given.lmax given.jitter_us given.policing

-- the rule of link 1 at port 1, with frames from the least one on, policed by bytes
abbrev pub usual_rule : (bag_ms lmax jitter_us : ℕ) → CommandedRule
usual_rule bag_ms lmax jitter_us = record {
  vl = 1;
  port = 1;
  bag_ms = bag_ms;
  lmin = least_frame;
  lmax = lmax;
  jitter_us = jitter_us;
  policing = Byte;
}

-- each of its values is in its range, the link's identifier too
pub record IsCommanded (given : CommandedRule) : Type 0 where
  pub rule : IsRule (commanded_rule given)
  pub link : given.vl ≤ 65535

-- The command ends as its run by this rule over the list answered: of an input that is then `rest`,
-- with error output `old_errors` that is then `new_errors`, and an output that held `old` and holds
-- `new`.
abbrev pub EndsPolicing : {R E : Type 0} → (remaining : R → Option (List ℕ)) →
    (error_bytes : E → Option (List ℕ)) → Rule → (input rest : Watched R) →
    (old_errors new_errors : Watched E) → (output_failed : Bool) → (old new : Option (List ℕ)) →
    Ended → Type 0
EndsPolicing remaining error_bytes rule input rest old_errors new_errors output_failed old new
    ended =
    (answer : Result Summary RunFault)
    × EndsAs error_bytes rest output_failed old_errors new_errors ended answer
    × IfSome (remaining (device_of input)) (λ bytes.
    Answers rule bytes (remaining (device_of rest)) old new answer)
