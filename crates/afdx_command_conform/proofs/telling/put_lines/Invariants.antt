use Rattle.std.proofs.Common.{◌≡◌, false, take}
use Rattle.std.specs.Io.KnownBytes.{Appends}
use Rattle.afdx_command_conform.specs.Telling.{lines_text}
use Rattle.afdx_command_conform.proofs.telling.put_lines.Given as goal

abbrev pub invariant-loop-line : goal.invariant-loop-line
invariant-loop-line g l = record {
  sound : g.O.Sink.failed l.output ≡ false;
  settings : g.O.Sink.settings l.output ≡ g.O.Sink.settings l.fn.output;
  told : Appends (g.O.Sink.written l.fn.output) (g.O.Sink.written l.output)
      (lines_text (take l.line-index l.lines));
}
