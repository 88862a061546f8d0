use Rattle.std.proofs.Common.{sym, subst}
use Rattle.afdx_text.proofs.OutputLemmas.{on-err}
use Rattle.afdx_command_senders.specs.SenderRun.{TellsUpTo, told_in}
use Rattle.afdx_command_senders.proofs.BatchLemmas.{batch-begun, batch-none, batch-told}
use Rattle.afdx_command_senders.proofs.judging.SendersRun.tell_due.Goals as goal

pub returns-in_err-due-clause-begun : goal.returns-in_err-due-clause-begun
returns-in_err-due-clause-begun g c =
    on-err c.from_residual.result _
    (batch-none c.args.before c.args.end c.args.self.now (g.O.Sink.written c.args.output.now))

pub returns-clause-told : goal.returns-clause-told
returns-clause-told g c =
    batch-told c.args.before c.args.end c.args.self.now c.collect.new.self c.tell_lines.new.self _ _ _
    (subst (λ l. TellsUpTo c.args.before c.args.end c.args.self.now.senders c.collect.new.self.senders (told_in l))
    (sym c.as_slice.ensures.value) c.in_ok-due.ensures.told) c.tell_lines.result c.collect.ensures.others.findings
    c.tell_lines.ensures.others.senders c.tell_lines.ensures.told

pub returns-clause-begun : goal.returns-clause-begun
returns-clause-begun g c =
    batch-begun c.args.before c.args.end c.args.self.now c.collect.new.self c.tell_lines.new.self _ _ _
    (subst (λ l. TellsUpTo c.args.before c.args.end c.args.self.now.senders c.collect.new.self.senders (told_in l))
    (sym c.as_slice.ensures.value) c.in_ok-due.ensures.told) c.tell_lines.result c.tell_lines.ensures.begun
