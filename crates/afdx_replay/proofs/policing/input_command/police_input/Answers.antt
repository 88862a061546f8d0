use Rattle.std.proofs.Common.{IfSome, subst}
use Rattle.afdx_police.specs.Rule.{Rule}
use Rattle.afdx_input_sources.specs.Claims.{one_port}
use Rattle.afdx_input_runs.specs.Arrivals.{TakesFrames}
use Rattle.afdx_replay.specs.policing.Input.{Polices}
use Rattle.afdx_replay.proofs.ReplaysLemmas.{ends-in}
use Rattle.afdx_replay.proofs.policing.input_command.police_input.Goals as goal

pub returns-in_default-clause-calls : goal.returns-in_default-clause-calls
returns-in_default-clause-calls g c =
    c.starts.ensures.asked (g.P.Placing.is_settled c.args.options) c.args.input.now c.requires.new

pub returns-clause-polices : goal.returns-clause-polices
returns-clause-polices g c commanded = (
  c.police_over-answer.result,
  ends-in g.E.Write.contents (g.A.Input.ended c.police_over-answer.new.input)
      (g.A.Input.failed c.police_over-answer.new.input) (g.O.Sink.failed c.police_over-answer.new.output)
      c.args.errors.now c.end_input.new.errors c.end_input.result c.police_over-answer.result
      c.end_input.ensures.status c.end_input.ensures.summary c.end_input.ensures.tally
      c.end_input.ensures.told c.end_input.ensures.silent c.police_over-answer.ensures.ended
      c.police_over-answer.ensures.read c.police_over-answer.ensures.write,
  subst (λ (rule : Rule). IfSome (g.A.RunInput.known c.args.input.now) (λ bytes. Polices rule
      (g.A.RunInput.Takes TakesFrames c.args.options (one_port rule.port) bytes c.police_over-answer.new.input)
      (g.O.Sink.written c.args.output.now) (g.O.Sink.written c.police_over-answer.new.output)
      c.police_over-answer.result)) c.in-Some.ensures.given c.police_over-answer.ensures.polices,
)
