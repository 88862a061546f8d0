use Rattle.std.proofs.Common.{false, refl}
use Rattle.afdx_text.proofs.OutputLemmas.{on-err}
use Rattle.afdx_replay.specs.replaying.Text.{with_departure}
use Rattle.afdx_replay.proofs.CascadeEventLemmas.{name-is, told-carried, begun-carried}
use Rattle.afdx_replay.proofs.cascading.teller.Teller.tell_carried.Goals as goal

pub returns-clause-told : goal.returns-clause-told
returns-clause-told g c before d are is =
    let ss = c.args.self.now.switches.now in
    let k = c.args.at.switch.0 in
    let name = c.name-name.result.now in
    let named = name-is ss k name c.name-name.ensures.name in
    told-carried ss c.args.self.now.systems.items k before name named c.args.at c.args.time
    c.args.tag d refl is c.args.self.now.counts
    (with_departure c.args.self.now.counts false false) (g.O.Sink.written c.args.output.now)
    (g.O.Sink.written c.put.new.self) are refl c.in_ok-put.ensures.whole

pub returns-in_err-put-clause-begun : goal.returns-in_err-put-clause-begun
returns-in_err-put-clause-begun g c before d is =
    let ss = c.args.self.now.switches.now in
    let k = c.args.at.switch.0 in
    let name = c.name-name.result.now in
    let named = name-is ss k name c.name-name.ensures.name in
    on-err c.from_residual.result _
    (begun-carried ss c.args.self.now.systems.items k before name named c.args.at c.args.time c.args.tag d refl is
    (g.O.Sink.written c.args.output.now) (g.O.Sink.written c.put.new.self) c.in_err-put.ensures.front)
