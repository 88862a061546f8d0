use Rattle.std.proofs.Common.{◌≡◌, ◌≤◌, length, false}
use Rattle.std.specs.Io.KnownBytes.{Appends}
use Rattle.afdx_switch.specs.Ports.{holds}
use Rattle.afdx_text.specs.OutLines.{site_text}
use Rattle.afdx_replay.specs.replaying.Text.{loss_lines}
use Rattle.afdx_replay.proofs.LossLemmas.{lost_below}
use Rattle.afdx_replay.proofs.replaying.lines.put_losses.Given as goal

abbrev pub invariant-loop-place : goal.invariant-loop-place
invariant-loop-place g l = record {
  sound : g.O.Sink.failed l.output ≡ false;
  settings : g.O.Sink.settings l.output ≡ g.O.Sink.settings l.fn.output;
  lines : Appends (g.O.Sink.written l.fn.output) (g.O.Sink.written l.output)
      (loss_lines l.n (site_text l.site) (lost_below (holds l.lost) l.place));
  count : l.count ≡ length (lost_below (holds l.lost) l.place);
  few : l.count ≤ l.place;
}
