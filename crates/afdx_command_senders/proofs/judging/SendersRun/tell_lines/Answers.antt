use Rattle.std.proofs.Common.{◌+◌, refl, sym, ◌∙◌, subst, take}
use Rattle.afdx_input_lines.specs.Calls.{AppendsFront}
use Rattle.afdx_text.proofs.OutputLemmas.{on-err}
use Rattle.afdx_command_senders.specs.SenderRun.{TellsMore, told_in, told_text}
use Rattle.afdx_command_senders.proofs.BatchLemmas.{batch-front, in-next}
use Rattle.afdx_command_senders.proofs.SenderRunLemmas.{begins-one, tells-none, tells-one}
use Rattle.afdx_command_senders.proofs.judging.SendersRun.tell_lines.Goals as goal

pub loop-line-init : goal.loop-line-init
loop-line-init g c = record {
  sound = c.requires.sound;
  settings = refl;
  others = record { tables = refl; asked = refl; senders = refl; latest = refl; left_out = refl };
  told = tells-none (g.O.Sink.written c.args.output.now) c.args.self.now;
}

pub loop-line-preserved : goal.loop-line-preserved
loop-line-preserved g c = record {
  sound = c.in_ok-tell_line.ensures.sink.failed;
  settings = c.tell_line.ensures.sink.settings ∙ c.loop-line.invariant.settings;
  others = record {
    tables = c.tell_line.ensures.others.tables ∙ c.loop-line.invariant.others.tables;
    asked = c.tell_line.ensures.others.asked ∙ c.loop-line.invariant.others.asked;
    senders = c.tell_line.ensures.others.senders ∙ c.loop-line.invariant.others.senders;
    latest = c.tell_line.ensures.others.latest ∙ c.loop-line.invariant.others.latest;
    left_out = c.tell_line.ensures.others.left_out ∙ c.loop-line.invariant.others.left_out;
  };
  told = subst (λ l. TellsMore c.args.self.now c.tell_line.new.self (g.O.Sink.written c.args.output.now)
      (g.O.Sink.written c.tell_line.new.output) l)
      (sym (in-next c.args.lines.now c.loop-line.line-index _ c.loop-line-test.true))
      (tells-one _ _ _ c.args.self.now c.loop-line.self c.tell_line.new.self _
      (told_in (take c.loop-line.line-index c.args.lines.now)) c.loop-line.invariant.told
      c.in_ok-tell_line.ensures.told c.in_ok-tell_line.ensures.counted);
}

pub returns-in_err-tell_line-clause-begun : goal.returns-in_err-tell_line-clause-begun
returns-in_err-tell_line-clause-begun g c =
    let i = c.loop-line.line-index in
    on-err c.from_residual.result _
    (batch-front (g.O.Sink.written c.args.output.now) (g.O.Sink.written c.tell_line.new.output) c.args.lines.now (i + 1)
    (subst (λ l. AppendsFront (g.O.Sink.written c.args.output.now) (g.O.Sink.written c.tell_line.new.output)
    (told_text l)) (sym (in-next c.args.lines.now i _ c.loop-line-test.true))
    (begins-one _ _ _ c.args.self.now c.loop-line.self c.tell_line.new.self _
    (told_in (take i c.args.lines.now)) c.loop-line.invariant.told.written c.in_err-tell_line.ensures.begun)))
