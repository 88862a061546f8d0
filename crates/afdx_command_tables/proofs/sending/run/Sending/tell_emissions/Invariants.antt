use Rattle.std.proofs.Common.{◌≡◌, ◌≤◌, List, Option, ℕ, false}
use Rattle.afdx_send.specs.Sender.{last_time, frames_held}
use Rattle.afdx_command_tables.specs.sending.Events.{Event}
use Rattle.afdx_command_tables.specs.sending.Sent.{Source}
use Rattle.afdx_command_tables.specs.sending.Progress.{HasTold, ToldMore, HasRoom}
use Rattle.afdx_command_tables.proofs.sending.run.Sending.tell_emissions.Given as goal

abbrev pub invariant-loop-emission : goal.invariant-loop-emission
invariant-loop-emission g l = record {
  clock : last_time l.self.sender ≤ l.until;
  sound : g.O.Sink.failed l.output ≡ false;
  settings : g.O.Sink.settings l.output ≡ g.O.Sink.settings l.fn.output;
  room : (n : ℕ) → HasRoom l.fn.self.counts (frames_held l.fn.self.sender) n
      → HasRoom l.self.counts (frames_held l.self.sender) n;
  told : (s : Source) (events : List Event) (start : Option (List ℕ))
      → HasTold s l.fn.self.sender l.fn.self.port l.fn.self.counts start
      (g.O.Sink.written l.fn.output) events →
      ToldMore s l.self.sender l.self.port l.self.counts start (g.O.Sink.written l.output) events;
}

abbrev pub decreases-loop-emission : goal.decreases-loop-emission
decreases-loop-emission g l = frames_held l.self.sender
