use Rattle.std.proofs.Common.{◌≡◌, ◌*◌, ◌-◌, List, Option, ℕ, false}
use Rattle.afdx_cascade.specs.Cascade as cascade
use Rattle.afdx_cascade.specs.Runs.{Line}
use Rattle.afdx_cascade.specs.SwitchEvents.{SwitchEvent}
use Rattle.afdx_config.specs.Switches.{NamedRows}
use Rattle.afdx_input_sources.specs.Items.{most_frames}
use Rattle.afdx_input_lines.specs.declared.watched.Watched.{Watched as Device}
use Rattle.afdx_replay.specs.cascading.Told.{AreFirst, AreSteady, HasTold, ToldUntil, total}
use Rattle.afdx_replay.proofs.cascading.run.Cascading.tell_events.Given as goal

abbrev pub invariant-loop-happened : goal.invariant-loop-happened
invariant-loop-happened g l = record {
  clock : cascade.IsUntil l.self.cascade l.until;
  sound : g.O.Sink.failed l.output ≡ false;
  settings : g.O.Sink.settings l.output ≡ g.O.Sink.settings l.fn.output;
  steady : AreSteady l.self.teller.counts;
  told : (s : List NamedRows) (start : Option (Device g.row.D.Denot)) (first : Option (List ℕ)) (past : List Line)
      (events : List SwitchEvent) → HasTold g.D.Write.contents s l.fn.self.cascade l.fn.self.teller start first
      (g.O.Sink.written l.fn.output) events → AreFirst s past l.until events
      → ToldUntil g.D.Write.contents s l.self.cascade l.self.teller start first
      (g.O.Sink.written l.output) past l.until;
}

abbrev pub decreases-loop-happened : goal.decreases-loop-happened
decreases-loop-happened g l = 1153 * most_frames - total l.self.teller.counts
