use Rattle.std.proofs.Common.{◌≡◌, false, map, take}
use Rattle.std.specs.Io.KnownBytes.{Appends}
use Rattle.afdx_command_conform.specs.Telling.{lines_text}
use Rattle.afdx_command_conform.proofs.due.put_due.Given as goal

abbrev pub invariant-loop-next : goal.invariant-loop-next
invariant-loop-next g l = record {
  sound : g.O.Sink.failed l.output ≡ false;
  settings : g.O.Sink.settings l.output ≡ g.O.Sink.settings l.fn.output;
  told : Appends (g.O.Sink.written l.fn.output) (g.O.Sink.written l.output)
      (lines_text (take l.next-index (map (λ d. d.line) l.due)));
}
