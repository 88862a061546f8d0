use Rattle.std.proofs.Common.{◌≡◌, List, Option, ℕ, false}
use Rattle.afdx_config.specs.Rows.{Rows}
use Rattle.afdx_network.specs.Events.{Event}
use Rattle.afdx_network.specs.Network as network
use Rattle.afdx_replay.specs.replaying.Replayed.{HasTold, ToldMore, HasRoom}
use Rattle.afdx_replay.proofs.replaying.run.Replay.tell_departures.Given as goal

abbrev pub invariant-loop-departed : goal.invariant-loop-departed
invariant-loop-departed g l = record {
  clock : network.IsUntil l.self.network l.until;
  sound : g.O.Sink.failed l.output ≡ false;
  settings : g.O.Sink.settings l.output ≡ g.O.Sink.settings l.fn.output;
  early : l.self.early ≡ l.fn.self.early;
  room : (n : ℕ) → HasRoom l.fn.self.counts (network.frames_held l.fn.self.network) n
      → HasRoom l.self.counts (network.frames_held l.self.network) n;
  told : (t : Rows) (events : List Event) (start : Option (List ℕ))
      → HasTold t l.fn.self.network l.fn.self.systems l.fn.self.counts start
      (g.O.Sink.written l.fn.output) events →
      ToldMore t l.self.network l.self.systems l.self.counts start (g.O.Sink.written l.output) events;
}

abbrev pub decreases-loop-departed : goal.decreases-loop-departed
decreases-loop-departed g l = network.frames_held l.self.network
