use Rattle.std.proofs.Common.{◌≡◌, ◌+◌, false, length, map}
use Rattle.afdx_senders.specs.Lines.{line_of}
use Rattle.afdx_command_conform.specs.Telling.{findings_in}
use Rattle.afdx_command_senders.specs.Merging.{AreCountedTo, IsToldTo, lines_up, merged}
use Rattle.afdx_command_senders.specs.SenderRun.{IsSameButFindings, told_in}
use Rattle.afdx_command_senders.specs.SenderTexts.{told_lines}
use Rattle.afdx_command_senders.proofs.merging.tell_merged.Given as goal

abbrev pub invariant-loop-line : goal.invariant-loop-line
invariant-loop-line g l = record {
  sound : g.O.Sink.failed l.output ≡ false;
  settings : g.O.Sink.settings l.output ≡ g.O.Sink.settings l.fn.output;
  others : IsSameButFindings l.fn.senders l.senders;
  told : IsToldTo (g.O.Sink.written l.fn.output) (g.O.Sink.written l.output) (map line_of l.lines) l.due
      (lines_up (merged (map line_of l.initial.lines) l.initial.due));
  counted : AreCountedTo l.fn.senders.findings l.senders.findings l.lines
      (findings_in (told_lines (told_in l.initial.lines)));
}

abbrev pub decreases-loop-line : goal.decreases-loop-line
decreases-loop-line g l = length l.lines + length l.due
