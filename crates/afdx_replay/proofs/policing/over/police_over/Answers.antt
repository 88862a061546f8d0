use Rattle.std.proofs.Common.{rules, Ok, Err}
use Rattle.afdx_police.specs.RuleOf.{rule_of}
use Rattle.afdx_input_sources.specs.Claims.{one_port}
use Rattle.afdx_input_runs.specs.Arrivals.{TakesFrames}
use Rattle.afdx_replay.proofs.ReplaysLemmas.{polices-known}
use Rattle.afdx_replay.proofs.policing.over.police_over.Goals as goal

-- it ended with a fault
pub returns-in_err-count-clause-polices : goal.returns-in_err-count-clause-polices
returns-in_err-count-clause-polices g c =
    let rule = rule_of c.args.rule.now in
    let old = g.O.Sink.written c.args.output.now in
    let takes = λ (bytes : g.A.RunInput.Bytes). g.A.RunInput.Takes TakesFrames c.args.options (one_port rule.port) bytes
    c.tell_all.new.self in
    let so = polices-known rule takes c.tell_all.new.machine old (g.O.Sink.written c.tell_all.new.output)
    (g.A.RunInput.known c.args.input.now) (Err c.in_err-count.field-0.0)
    (c.in_err-count.ensures.answer rule (c.new-police.ensures old) (λ item come. tt)) in
    search rules

-- the input came to its end
pub returns-clause-polices : goal.returns-clause-polices
returns-clause-polices g c =
    let rule = rule_of c.args.rule.now in
    let old = g.O.Sink.written c.args.output.now in
    let takes = λ (bytes : g.A.RunInput.Bytes). g.A.RunInput.Takes TakesFrames c.args.options (one_port rule.port) bytes
    c.tell_all.new.self in
    rw c.of.ensures (polices-known rule takes c.tell_all.new.machine old (g.O.Sink.written c.tell_all.new.output)
    (g.A.RunInput.known c.args.input.now) (Ok c.in_ok-count.count)
    (c.in_ok-count.ensures.answer rule (c.new-police.ensures old) (λ item come. tt)))

pub tell_all-requires-clause-told : goal.tell_all-requires-clause-told
tell_all-requires-clause-told g c =
    (rule_of c.args.rule.now, c.new-police.ensures (g.O.Sink.written c.args.output.now), λ item come. tt)
