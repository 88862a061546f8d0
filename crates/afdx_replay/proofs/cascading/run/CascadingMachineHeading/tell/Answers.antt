use Rattle.std.proofs.Common.{arith, inl, inr, subst, sym}
use Rattle.afdx_input_sources.specs.Engine.{Item, item_of}
use Rattle.afdx_input_lines.specs.declared.frame_line.Heading.{Heading}
use Rattle.afdx_replay.specs.cascading.Sited.{line_of, lines_in}
use Rattle.afdx_replay.specs.cascading.Told.{AreSteady, ToldUntil}
use Rattle.afdx_replay.proofs.CascadeArriveLemmas.{arrival-begun, arrival-told, err-by, err-of, items-clock, items-first}
use Rattle.afdx_replay.proofs.CascadeArriveLemmas.{lines-few, ok-by, ok-of, place-of, same-switches}
use Rattle.afdx_replay.proofs.CascadeRunLemmas.{told-some}
use Rattle.afdx_replay.proofs.CascadeStepLemmas.{own-fits, step-low}
use Rattle.afdx_text.proofs.OutputLemmas.{on-err}
use Rattle.afdx_replay.proofs.cascading.run.CascadingMachineHeading.tell.Goals as goal

pub tell_events-requires-clause-clock : goal.tell_events-requires-clause-clock
tell_events-requires-clause-clock g c =
    let r = c.requires.told in
    items-clock g.D.Write.contents r.0 c.args.self.now r.1 (g.O.Sink.written c.args.output.now) r.2 r.3
    (item_of c.args.n c.args.heading.now c.args.message.now) r.4

pub tell_events-requires-clause-room : goal.tell_events-requires-clause-room
tell_events-requires-clause-room g c =
    let r = c.requires.told in
    let before = g.O.Sink.written c.args.output.now in
    let x : Item Heading = item_of c.args.n c.args.heading.now c.args.message.now in
    let clock = items-clock g.D.Write.contents r.0 c.args.self.now r.1 before r.2 r.3 x r.4 in (
      r.0.0,
      r.0.1,
      r.1,
      lines_in r.2,
      r.3.told.events,
      r.3.told.told,
      items-first g.D.Write.contents r.0 c.args.self.now r.1 before r.2 r.3 x.head.time clock,
      lines-few r.2 r.3.few,
    )

pub returns-in_err-tell_events-clause-begins : goal.returns-in_err-tell_events-clause-begins
returns-in_err-tell_events-clause-begins g c rules start past h =
    let r = c.requires.told in
    let before = g.O.Sink.written c.args.output.now in
    let x : Item Heading = item_of c.args.n c.args.heading.now c.args.message.now in
    let clock = items-clock g.D.Write.contents r.0 c.args.self.now r.1 before r.2 r.3 x r.4 in
    on-err c.from_residual.result _
    (inl (c.in_err-tell_events.ensures.begun rules.0 rules.1 start (lines_in past) h.told.events h.told.told
    (items-first g.D.Write.contents rules c.args.self.now start before past h x.head.time clock)))

pub arrive-requires-clause-within : goal.arrive-requires-clause-within
arrive-requires-clause-within g c =
    let r = c.requires.told in
    let before = g.O.Sink.written c.args.output.now in
    let x : Item Heading = item_of c.args.n c.args.heading.now c.args.message.now in
    let clock = items-clock g.D.Write.contents r.0 c.args.self.now r.1 before r.2 r.3 x r.4 in
    let k = c.in_ok-tell_events.ensures.told r.0.0 r.0.1 r.1 (lines_in r.2) r.3.told.events r.3.told.told
    (items-first g.D.Write.contents r.0 c.args.self.now r.1 before r.2 r.3 x.head.time clock) in
    let size = k.told.switches_are.count in
    let within = r.5.within in
    omega (arith, size, within)

pub arrive-requires-clause-stands : goal.arrive-requires-clause-stands
arrive-requires-clause-stands g c =
    let r = c.requires.told in
    let before = g.O.Sink.written c.args.output.now in
    let x : Item Heading = item_of c.args.n c.args.heading.now c.args.message.now in
    let clock = items-clock g.D.Write.contents r.0 c.args.self.now r.1 before r.2 r.3 x r.4 in
    let k = c.in_ok-tell_events.ensures.told r.0.0 r.0.1 r.1 (lines_in r.2) r.3.told.events r.3.told.told
    (items-first g.D.Write.contents r.0 c.args.self.now r.1 before r.2 r.3 x.head.time clock) in
    (r.0.0, k.events, k.told.switches_are, r.5.free)

pub returns-in_err-arrived-clause-begins : goal.returns-in_err-arrived-clause-begins
returns-in_err-arrived-clause-begins g c rules start past h =
    let r = c.requires.told in
    let before = g.O.Sink.written c.args.output.now in
    let x : Item Heading = item_of c.args.n c.args.heading.now c.args.message.now in
    let clock = items-clock g.D.Write.contents r.0 c.args.self.now r.1 before r.2 r.3 x r.4 in
    let k = c.in_ok-tell_events.ensures.told rules.0 rules.1 start (lines_in past) h.told.events h.told.told
    (items-first g.D.Write.contents rules c.args.self.now start before past h x.head.time clock) in
    let w = c.tell_events.new.self.cascade in
    let t = c.arrive.new.self.teller in
    let middle = g.O.Sink.written c.tell_events.new.output in
    let told : ToldUntil g.D.Write.contents rules.0 w t rules.1 start middle (lines_in past) x.head.time =
    subst (λ z. ToldUntil g.D.Write.contents rules.0 w z rules.1 start middle (lines_in past) x.head.time)
    (sym c.arrive.ensures.teller) k in
    on-err c.from_residual-in_err-arrived.result _
    (inl (told-some g.D.Write.contents rules.0 (lines_in past) rules.1 start middle w t x.head.time told.events
    told.told told.first))

pub tell_arrival-requires : goal.tell_arrival-requires
tell_arrival-requires g c =
    let r = c.requires.told in
    let before = g.O.Sink.written c.args.output.now in
    let x : Item Heading = item_of c.args.n c.args.heading.now c.args.message.now in
    let clock = items-clock g.D.Write.contents r.0 c.args.self.now r.1 before r.2 r.3 x r.4 in
    let k = c.in_ok-tell_events.ensures.told r.0.0 r.0.1 r.1 (lines_in r.2) r.3.told.events r.3.told.told
    (items-first g.D.Write.contents r.0 c.args.self.now r.1 before r.2 r.3 x.head.time clock) in
    let w = c.tell_events.new.self.cascade in
    let t = c.arrive.new.self.teller in
    let middle = g.O.Sink.written c.tell_events.new.output in
    let told : ToldUntil g.D.Write.contents r.0.0 w t r.0.1 r.1 middle (lines_in r.2) x.head.time =
    subst (λ z. ToldUntil g.D.Write.contents r.0.0 w z r.0.1 r.1 middle (lines_in r.2) x.head.time)
    (sym c.arrive.ensures.teller) k in
    let within = r.5.within in
    let size = told.told.fits.systems_are in
    record {
      within = omega (arith, within, size);
      fits = own-fits g.D.Write.contents r.0.0 w t r.0.1 r.1 middle (lines_in r.2) x.head.time told.events told.told
          told.first;
      low = step-low g.D.Write.contents r.0.0 w t r.0.1 r.1 middle (lines_in r.2) x.head.time told.events told.told
          told.first (lines-few r.2 r.3.few)
          (subst (λ z. AreSteady z.counts) (sym c.arrive.ensures.teller) c.in_ok-tell_events.ensures.steady);
      sound = c.in_ok-tell_events.ensures.sink.failed;
    }

pub returns-clause-told : goal.returns-clause-told
returns-clause-told g c rules start past h follows can =
    let r = c.requires.told in
    let before = g.O.Sink.written c.args.output.now in
    let x : Item Heading = item_of c.args.n c.args.heading.now c.args.message.now in
    let clock = items-clock g.D.Write.contents r.0 c.args.self.now r.1 before r.2 r.3 x r.4 in
    let k = c.in_ok-tell_events.ensures.told rules.0 rules.1 start (lines_in past) h.told.events h.told.told
    (items-first g.D.Write.contents rules c.args.self.now start before past h x.head.time clock) in
    let w = c.tell_events.new.self.cascade in
    let t = c.arrive.new.self.teller in
    let middle = g.O.Sink.written c.tell_events.new.output in
    let told : ToldUntil g.D.Write.contents rules.0 w t rules.1 start middle (lines_in past) x.head.time =
    subst (λ z. ToldUntil g.D.Write.contents rules.0 w z rules.1 start middle (lines_in past) x.head.time)
    (sym c.arrive.ensures.teller) k in
    let next = c.in_ok-arrived.ensures.next rules.0 told.events told.told.switches_are can.free in
    let few = follows.in_order.few in
    ok-by c.tell_arrival.result _ (λ v is. record {
      told = arrival-told g.D.Write.contents rules.0 w c.arrive.new.self.cascade t c.tell_arrival.new.self rules.1 start
          middle (g.O.Sink.written c.tell_arrival.new.output) (lines_in past) (line_of x) c.in_ok-arrived.arrived.0
          c.in_ok-arrived.arrived.1 told next.0 next.1 (ok-of _ is c.tell_arrival.ensures.fits)
          (λ es e systems tells. ok-of _ is (c.tell_arrival.ensures.told es e systems tells))
          (λ es e first tells heard. ok-of _ is (c.tell_arrival.ensures.heard es e first tells heard));
      early = follows.in_order.early;
      in_time = (follows.in_order.early, h.in_time);
      clock = c.in_ok-arrived.ensures.clock;
      few = omega (arith, few);
      steady = ok-of _ is (c.tell_arrival.ensures.steady
          (subst (λ z. AreSteady z.counts) (sym c.arrive.ensures.teller) c.in_ok-tell_events.ensures.steady));
    })

pub returns-clause-begins : goal.returns-clause-begins
returns-clause-begins g c rules start past h =
    let r = c.requires.told in
    let before = g.O.Sink.written c.args.output.now in
    let x : Item Heading = item_of c.args.n c.args.heading.now c.args.message.now in
    let clock = items-clock g.D.Write.contents r.0 c.args.self.now r.1 before r.2 r.3 x r.4 in
    let k = c.in_ok-tell_events.ensures.told rules.0 rules.1 start (lines_in past) h.told.events h.told.told
    (items-first g.D.Write.contents rules c.args.self.now start before past h x.head.time clock) in
    let w = c.tell_events.new.self.cascade in
    let t = c.arrive.new.self.teller in
    let middle = g.O.Sink.written c.tell_events.new.output in
    let told : ToldUntil g.D.Write.contents rules.0 w t rules.1 start middle (lines_in past) x.head.time =
    subst (λ z. ToldUntil g.D.Write.contents rules.0 w z rules.1 start middle (lines_in past) x.head.time)
    (sym c.arrive.ensures.teller) k in
    let can = place-of r.0.0 rules.0 x
    (same-switches r.0.0 rules.0 c.args.self.now.teller r.3.told.told.fits h.told.told.fits) r.5 in
    let next = c.in_ok-arrived.ensures.next rules.0 told.events told.told.switches_are can.free in
    err-by c.tell_arrival.result _ (λ e is. inr
    (arrival-begun g.D.Write.contents rules.0 w c.arrive.new.self.cascade t c.tell_arrival.new.self rules.1 start
    middle (g.O.Sink.written c.tell_arrival.new.output) (lines_in past) (line_of x) c.in_ok-arrived.arrived.0
    c.in_ok-arrived.arrived.1 told next.0 next.1 c.tell_arrival.new.self.early (err-of _ is c.tell_arrival.ensures.kept)
    (λ es one tells. err-of _ is (c.tell_arrival.ensures.begun es one tells))))
