use Rattle.std.proofs.Common.{◌∙◌, ◌∷◌, Some, sym, subst}
use Rattle.afdx_replay.specs.cascading.Early.{AreEarlyLines, HearsEarly}
use Rattle.afdx_text.proofs.OutputLemmas.{on-err}
use Rattle.afdx_replay.proofs.CascadeArrivalLemmas.{told-arrival, begun-arrival, heard-early, heard-same}
use Rattle.afdx_replay.proofs.CascadeEventLemmas.{name-is}
use Rattle.afdx_replay.proofs.EarlyLemmas.{hears-nobody}
use Rattle.afdx_replay.proofs.cascading.teller.Teller.tell_arrival.Goals as goal

pub returns-in_err-reason-clause-begun : goal.returns-in_err-reason-clause-begun
returns-in_err-reason-clause-begun g c before h tells =
    let ss = c.args.self.now.switches.now in
    let named = name-is ss c.args.at.switch.0 c.name.result.now c.name.ensures.name in
    on-err c.from_residual.result _ (begun-arrival ss before c.args.at c.args.tag c.args.verdict c.args.early h tells
    c.name.result.now
    (g.O.Sink.written c.args.output.now) (g.O.Sink.written c.tell_verdict.new.output) named
    c.in_err-reason.ensures.front)

pub returns-then-is_over_rate-clause-told : goal.returns-then-is_over_rate-clause-told
returns-then-is_over_rate-clause-told g c before h are tells =
    let ss = c.args.self.now.switches.now in
    let named = name-is ss c.args.at.switch.0 c.name.result.now c.name.ensures.name in
    told-arrival ss before c.args.at c.args.tag c.args.verdict c.args.early h tells c.args.self.now.systems.items
    c.name.result.now c.args.self.now.counts c.tell_verdict.new.counts
    (g.O.Sink.written c.args.output.now) (g.O.Sink.written c.tell_verdict.new.output) named are
    c.in_ok-reason.ensures.counted c.in_ok-reason.ensures.lines

pub returns-else-is_over_rate-clause-told : goal.returns-else-is_over_rate-clause-told
returns-else-is_over_rate-clause-told g c before h are tells =
    let ss = c.args.self.now.switches.now in
    let named = name-is ss c.args.at.switch.0 c.name.result.now c.name.ensures.name in
    told-arrival ss before c.args.at c.args.tag c.args.verdict c.args.early h tells c.args.self.now.systems.items
    c.name.result.now c.args.self.now.counts c.tell_verdict.new.counts
    (g.O.Sink.written c.args.output.now) (g.O.Sink.written c.tell_verdict.new.output) named are
    c.in_ok-reason.ensures.counted c.in_ok-reason.ensures.lines

pub returns-in_default-clause-told : goal.returns-in_default-clause-told
returns-in_default-clause-told g c before h are tells =
    let ss = c.args.self.now.switches.now in
    let named = name-is ss c.args.at.switch.0 c.name.result.now c.name.ensures.name in
    told-arrival ss before c.args.at c.args.tag c.args.verdict c.args.early h tells c.args.self.now.systems.items
    c.name.result.now c.args.self.now.counts c.tell_verdict.new.counts
    (g.O.Sink.written c.args.output.now) (g.O.Sink.written c.tell_verdict.new.output) named are
    c.in_ok-reason.ensures.counted c.in_ok-reason.ensures.lines

pub returns-then-is_over_rate-clause-heard : goal.returns-then-is_over_rate-clause-heard
returns-then-is_over_rate-clause-heard g c before h start tells was =
    let ss = c.args.self.now.switches.now in
    let named = name-is ss c.args.at.switch.0 c.name.result.now c.name.ensures.name in
    heard-early ss before c.args.at c.args.tag c.args.verdict c.args.early h tells g.D.Write.contents
    c.in_ok-reason.reason c.in_ok-reason.ensures.reason
    c.name.result.now start c.in-Some.drops c.tell_early.new.drops named
    (sym c.is_over_rate.ensures ∙ c.if-is_over_rate.true) c.tell_early.ensures
    (subst (λ e. HearsEarly g.D.Write.contents ss start e before) c.in-Some.is was)

pub returns-else-is_over_rate-clause-heard : goal.returns-else-is_over_rate-clause-heard
returns-else-is_over_rate-clause-heard g c before h start tells was =
    heard-same c.args.self.now.switches.now before c.args.at c.args.tag c.args.verdict c.args.early h tells
    g.D.Write.contents
    c.in_ok-reason.reason c.in_ok-reason.ensures.reason start (Some c.in-Some.drops)
    (sym c.is_over_rate.ensures ∙ c.if-is_over_rate.false)
    (subst (λ e. HearsEarly g.D.Write.contents c.args.self.now.switches.now start e before) c.in-Some.is was)

pub returns-in_default-clause-heard : goal.returns-in_default-clause-heard
returns-in_default-clause-heard g c before h start tells was =
    let ss = c.args.self.now.switches.now in
    hears-nobody g.D.Write.contents (AreEarlyLines ss before) (AreEarlyLines ss (h ∷ before)) start
    c.args.self.now.early c.in_default.not-Some was
