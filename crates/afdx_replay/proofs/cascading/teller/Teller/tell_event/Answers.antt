use Rattle.std.proofs.Common.{sym, subst}
use Rattle.afdx_cascade.specs.Cascade.{TellsEvent}
use Rattle.afdx_cascade.specs.Plans.{plan_of}
use Rattle.afdx_input_lines.specs.Calls.{AppendsFront}
use Rattle.afdx_replay.specs.cascading.Text.{event_lines}
use Rattle.afdx_replay.specs.cascading.Told.{TellsOne}
use Rattle.afdx_replay.proofs.CascadeArrivalLemmas.{heard-left}
use Rattle.afdx_replay.proofs.CascadeEventLemmas.{ok-more, err-more, on-ok}
use Rattle.afdx_replay.proofs.cascading.teller.Teller.tell_event.Goals as goal

pub returns-in-Ended-clause-told : goal.returns-in-Ended-clause-told
returns-in-Ended-clause-told g c before h are tells =
    let ss = c.args.self.now.switches.now in
    let it = subst (λ v. TellsEvent (plan_of ss) before v h) c.in-Ended.is tells in
    ok-more c.tell_ended.result
    (λ one. subst (λ e. TellsOne ss c.tell_ended.new.self.systems.items c.args.self.now.counts
    c.tell_ended.new.self.counts (g.O.Sink.written c.args.output.now) (g.O.Sink.written c.tell_ended.new.output)
    before e) (sym it.1) one)
    (c.tell_ended.ensures.told before it.0 are it.2)

pub returns-in-Ended-clause-begun : goal.returns-in-Ended-clause-begun
returns-in-Ended-clause-begun g c before h are tells =
    let ss = c.args.self.now.switches.now in
    let it = subst (λ v. TellsEvent (plan_of ss) before v h) c.in-Ended.is tells in
    err-more c.tell_ended.result
    (λ one. subst (λ e. AppendsFront (g.O.Sink.written c.args.output.now) (g.O.Sink.written c.tell_ended.new.output)
    (event_lines ss before e)) (sym it.1) one)
    (c.tell_ended.ensures.begun before it.0 are it.2)

pub returns-in-Ended-clause-heard : goal.returns-in-Ended-clause-heard
returns-in-Ended-clause-heard g c before h start tells was =
    let ss = c.args.self.now.switches.now in
    let it = subst (λ v. TellsEvent (plan_of ss) before v h) c.in-Ended.is tells in
    on-ok c.tell_ended.result (rw c.tell_ended.ensures.early
    (heard-left ss before h c.in-Ended.switch.0 it.0 it.1 g.D.Write.contents start c.args.self.now.early was))

pub returns-in-Carried-clause-told : goal.returns-in-Carried-clause-told
returns-in-Carried-clause-told g c before h are tells =
    let ss = c.args.self.now.switches.now in
    let it = subst (λ v. TellsEvent (plan_of ss) before v h) c.in-Carried.is tells in
    ok-more c.tell_carried.result
    (λ one. subst (λ e. TellsOne ss c.tell_carried.new.self.systems.items c.args.self.now.counts
    c.tell_carried.new.self.counts (g.O.Sink.written c.args.output.now) (g.O.Sink.written c.tell_carried.new.output)
    before e) (sym it.1) one)
    (c.tell_carried.ensures.told before it.0 are it.2)

pub returns-in-Carried-clause-begun : goal.returns-in-Carried-clause-begun
returns-in-Carried-clause-begun g c before h are tells =
    let ss = c.args.self.now.switches.now in
    let it = subst (λ v. TellsEvent (plan_of ss) before v h) c.in-Carried.is tells in
    err-more c.tell_carried.result
    (λ one. subst (λ e. AppendsFront (g.O.Sink.written c.args.output.now) (g.O.Sink.written c.tell_carried.new.output)
    (event_lines ss before e)) (sym it.1) one)
    (c.tell_carried.ensures.begun before it.0 it.2)

pub returns-in-Carried-clause-heard : goal.returns-in-Carried-clause-heard
returns-in-Carried-clause-heard g c before h start tells was =
    let ss = c.args.self.now.switches.now in
    let it = subst (λ v. TellsEvent (plan_of ss) before v h) c.in-Carried.is tells in
    on-ok c.tell_carried.result (rw c.tell_carried.ensures.early
    (heard-left ss before h c.in-Carried.at.switch.0 it.0 it.1 g.D.Write.contents start c.args.self.now.early was))

pub returns-in-Came-clause-told : goal.returns-in-Came-clause-told
returns-in-Came-clause-told g c before h are tells =
    let it = subst (λ v. TellsEvent (plan_of c.args.self.now.switches.now) before v h) c.in-Came.is tells in
    c.tell_arrival.ensures.told before h are it.0

pub returns-in-Came-clause-begun : goal.returns-in-Came-clause-begun
returns-in-Came-clause-begun g c before h are tells =
    let it = subst (λ v. TellsEvent (plan_of c.args.self.now.switches.now) before v h) c.in-Came.is tells in
    c.tell_arrival.ensures.begun before h it.0

pub returns-in-Came-clause-heard : goal.returns-in-Came-clause-heard
returns-in-Came-clause-heard g c before h start tells was =
    let it = subst (λ v. TellsEvent (plan_of c.args.self.now.switches.now) before v h) c.in-Came.is tells in
    c.tell_arrival.ensures.heard before h start it.0 was
