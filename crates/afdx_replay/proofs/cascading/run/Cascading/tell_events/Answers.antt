use Rattle.std.proofs.Common.{◌∙◌, refl}
use Rattle.afdx_cascade.specs.Cascade.{GivesNext}
use Rattle.afdx_cascade.specs.Plans.{plan_of}
use Rattle.afdx_cascade.proofs.CascadeLemmas.{some-of, none-of}
use Rattle.afdx_text.proofs.OutputLemmas.{on-err}
use Rattle.afdx_replay.proofs.CascadeRunLemmas.{begun-some, first-due, told-all, told-some}
use Rattle.afdx_replay.proofs.CascadeStepLemmas.{Steps, own-event, own-fits, own-lines, own-systems, step-low, step-within}
use Rattle.afdx_replay.proofs.CascadeStepLemmas.{steps-clock, steps-less, steps-told}
use Rattle.afdx_replay.proofs.cascading.run.Cascading.tell_events.Goals as goal

pub loop-happened-init : goal.loop-happened-init
loop-happened-init g c = record {
  clock = c.requires.clock;
  sound = c.requires.sound;
  settings = refl;
  steady = c.requires.steady;
  told = λ s start first past events has is. record { events = events; first = is; told = has };
}

pub take-requires-clause-sound : goal.take-requires-clause-sound
take-requires-clause-sound g c =
    let r = c.requires.room in
    let k = c.loop-happened.invariant.told r.0 r.1 r.2 r.3 r.4 r.5 r.6 in
    (plan_of r.0, k.events, k.told.switches_are)

pub returns-in_err-happened-clause-begun : goal.returns-in_err-happened-clause-begun
returns-in_err-happened-clause-begun g c s start first past events has is =
    let k = c.loop-happened.invariant.told s start first past events has is in
    on-err c.from_residual.result _
    (told-some g.D.Write.contents s past start first (g.O.Sink.written c.loop-happened.output)
    c.loop-happened.self.cascade c.loop-happened.self.teller c.args.until k.events k.told k.first)

pub tell_event-requires : goal.tell_event-requires
tell_event-requires g c =
    let r = c.requires.room in
    let w = c.loop-happened.self.cascade in
    let t = c.loop-happened.self.teller in
    let middle = g.O.Sink.written c.loop-happened.output in
    let k = c.loop-happened.invariant.told r.0 r.1 r.2 r.3 r.4 r.5 r.6 in
    let n : GivesNext (plan_of r.0) c.take.new.self c.args.until k.events c.in-Some.happened =
    some-of _ _ _ c.in-Some.is (c.in_ok-happened.ensures.given (plan_of r.0) k.events k.told.switches_are) in
    record {
      within = step-within g.D.Write.contents r.0 w t r.1 r.2 middle r.3 c.args.until k.events k.told k.first
          c.take.new.self c.in-Some.happened n;
      fits = own-fits g.D.Write.contents r.0 w t r.1 r.2 middle r.3 c.args.until k.events k.told k.first;
      low = step-low g.D.Write.contents r.0 w t r.1 r.2 middle r.3 c.args.until k.events k.told k.first r.7
          c.loop-happened.invariant.steady;
      sound = c.loop-happened.invariant.sound;
    }

pub returns-in_err-tell_event-clause-begun : goal.returns-in_err-tell_event-clause-begun
returns-in_err-tell_event-clause-begun g c s start first past events has is =
    let w = c.loop-happened.self.cascade in
    let t = c.loop-happened.self.teller in
    let middle = g.O.Sink.written c.loop-happened.output in
    let k = c.loop-happened.invariant.told s start first past events has is in
    let n : GivesNext (plan_of s) c.take.new.self c.args.until k.events c.in-Some.happened =
    some-of _ _ _ c.in-Some.is (c.in_ok-happened.ensures.given (plan_of s) k.events k.told.switches_are) in
    let front = c.in_err-tell_event.ensures.begun k.events n.event
    (own-systems g.D.Write.contents s w t start first middle past c.args.until k.events k.told k.first)
    (own-event g.D.Write.contents s w t start first middle past c.args.until k.events k.told k.first
    c.in-Some.happened n.event n.tells) in
    on-err c.from_residual-in_err-tell_event.result _
    (begun-some g.D.Write.contents s past start first (g.O.Sink.written c.tell_event.new.output) middle w
    c.take.new.self t c.args.until k.events n.event c.tell_event.new.self.early n.stands k.told k.first
    (first-due s past c.args.until k.events k.first n.event n.next) c.in_err-tell_event.ensures.kept
    (own-lines g.D.Write.contents s w t start first middle past c.args.until k.events k.told k.first
    (g.O.Sink.written c.tell_event.new.output) n.event front))

pub loop-happened-smaller : goal.loop-happened-smaller
loop-happened-smaller g c =
    steps-less g.D.Write.contents c.args.self.now.cascade c.loop-happened.self.cascade c.take.new.self
    c.args.self.now.teller c.loop-happened.self.teller c.tell_event.new.self
    (g.O.Sink.written c.args.output.now) (g.O.Sink.written c.loop-happened.output)
    (g.O.Sink.written c.tell_event.new.output) c.args.until c.in-Some.happened
    (record {
      told = c.loop-happened.invariant.told;
      given = λ p so_far st. some-of _ _ _ c.in-Some.is (c.in_ok-happened.ensures.given p so_far st);
      fits = c.in_ok-tell_event.ensures.fits;
      tells = c.in_ok-tell_event.ensures.told;
      hears = c.in_ok-tell_event.ensures.heard;
    }) c.requires.room

pub loop-happened-preserved : goal.loop-happened-preserved
loop-happened-preserved g c =
    let step : Steps g.D.Write.contents c.args.self.now.cascade c.loop-happened.self.cascade c.take.new.self
    c.args.self.now.teller c.loop-happened.self.teller c.tell_event.new.self
    (g.O.Sink.written c.args.output.now) (g.O.Sink.written c.loop-happened.output)
    (g.O.Sink.written c.tell_event.new.output) c.args.until c.in-Some.happened = record {
      told = c.loop-happened.invariant.told;
      given = λ p so_far st. some-of _ _ _ c.in-Some.is (c.in_ok-happened.ensures.given p so_far st);
      fits = c.in_ok-tell_event.ensures.fits;
      tells = c.in_ok-tell_event.ensures.told;
      hears = c.in_ok-tell_event.ensures.heard;
    } in
    record {
      clock = steps-clock _ _ _ _ _ _ _ _ _ _ _ c.in-Some.happened step c.requires.room;
      sound = c.in_ok-tell_event.ensures.sink.failed;
      settings = c.tell_event.ensures.sink.settings ∙ c.loop-happened.invariant.settings;
      steady = c.in_ok-tell_event.ensures.steady c.loop-happened.invariant.steady;
      told = steps-told _ _ _ _ _ _ _ _ _ _ _ c.in-Some.happened step;
    }

pub returns-clause-clock : goal.returns-clause-clock
returns-clause-clock g c =
    let r = c.requires.room in
    let k = c.loop-happened.invariant.told r.0 r.1 r.2 r.3 r.4 r.5 r.6 in
    (none-of _ _ c.in_default.is (c.in_ok-happened.ensures.none (plan_of r.0) k.events k.told.switches_are)).clock

pub returns-clause-quiet : goal.returns-clause-quiet
returns-clause-quiet g c =
    let r = c.requires.room in
    let k = c.loop-happened.invariant.told r.0 r.1 r.2 r.3 r.4 r.5 r.6 in
    (none-of _ _ c.in_default.is (c.in_ok-happened.ensures.none (plan_of r.0) k.events k.told.switches_are)).quiet

pub returns-clause-told : goal.returns-clause-told
returns-clause-told g c s start first past events has is =
    let k = c.loop-happened.invariant.told s start first past events has is in
    let n = none-of _ _ c.in_default.is (c.in_ok-happened.ensures.none (plan_of s) k.events k.told.switches_are) in
    record {
      events = k.events;
      first = k.first;
      told = record {
        fits = k.told.fits;
        switches_are = n.stands;
        systems_are = k.told.systems_are;
        counted = k.told.counted;
        written = k.told.written;
        heard = k.told.heard;
      };
    }

pub returns-clause-all_done : goal.returns-clause-all_done
returns-clause-all_done g c s start first past events has is soon late =
    let k = c.loop-happened.invariant.told s start first past events has is in
    let n = none-of _ _ c.in_default.is (c.in_ok-happened.ensures.none (plan_of s) k.events k.told.switches_are) in
    told-all g.D.Write.contents s past start first (g.O.Sink.written c.loop-happened.output)
    c.loop-happened.self.cascade c.loop-happened.self.teller c.args.until k.events k.told k.first soon (n.all_done late)
