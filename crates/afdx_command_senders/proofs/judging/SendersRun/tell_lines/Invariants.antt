use Rattle.std.proofs.Common.{◌≡◌, false, take}
use Rattle.afdx_command_senders.specs.SenderRun.{IsSameButFindings, TellsMore, told_in}
use Rattle.afdx_command_senders.proofs.judging.SendersRun.tell_lines.Given as goal

abbrev pub invariant-loop-line : goal.invariant-loop-line
invariant-loop-line g l = record {
  sound : g.O.Sink.failed l.output ≡ false;
  settings : g.O.Sink.settings l.output ≡ g.O.Sink.settings l.fn.output;
  others : IsSameButFindings l.fn.self l.self;
  told : TellsMore l.fn.self l.self (g.O.Sink.written l.fn.output) (g.O.Sink.written l.output)
      (told_in (take l.line-index l.lines));
}
