use Rattle.std.proofs.Common.{arith}
use Rattle.afdx_replay.specs.cascading.Sited.{lines_in}
use Rattle.afdx_replay.specs.cascading.Told.{latest_line}
use Rattle.afdx_replay.proofs.CascadeArriveLemmas.{items-first, lines-few}
use Rattle.afdx_replay.proofs.CascadeStepLemmas.{until-later}
use Rattle.afdx_replay.proofs.cascading.run.CascadingMachineHeading.end.Goals as goal

pub tell_events-requires-clause-clock : goal.tell_events-requires-clause-clock
tell_events-requires-clause-clock g c =
    let r = c.requires.told in
    let early = r.3.early in
    until-later c.args.self.now.cascade (latest_line (lines_in r.2)) 18446744073709551615
    (omega (arith, early)) r.3.clock

pub tell_events-requires-clause-room : goal.tell_events-requires-clause-room
tell_events-requires-clause-room g c =
    let r = c.requires.told in
    let h = r.3 in
    let early = h.early in (
      r.0.0,
      r.0.1,
      r.1,
      lines_in r.2,
      h.told.events,
      h.told.told,
      items-first g.D.Write.contents r.0 c.args.self.now r.1 (g.O.Sink.written c.args.output.now) r.2 h
          18446744073709551615 (until-later c.args.self.now.cascade (latest_line (lines_in r.2)) 18446744073709551615
          (omega (arith, early)) h.clock),
      lines-few r.2 h.few,
    )

pub returns-clause-done : goal.returns-clause-done
returns-clause-done g c rules start past h =
    let early = h.early in
    c.tell_events.ensures.all_done rules.0 rules.1 start (lines_in past) h.told.events h.told.told
    (items-first g.D.Write.contents rules c.args.self.now start (g.O.Sink.written c.args.output.now) past h
    18446744073709551615 (until-later c.args.self.now.cascade (latest_line (lines_in past)) 18446744073709551615
    (omega (arith, early)) h.clock)) h.in_time (omega arith)

pub returns-clause-begins : goal.returns-clause-begins
returns-clause-begins g c rules start past h =
    let early = h.early in
    c.tell_events.ensures.begun rules.0 rules.1 start (lines_in past) h.told.events h.told.told
    (items-first g.D.Write.contents rules c.args.self.now start (g.O.Sink.written c.args.output.now) past h
    18446744073709551615 (until-later c.args.self.now.cascade (latest_line (lines_in past)) 18446744073709551615
    (omega (arith, early)) h.clock))
