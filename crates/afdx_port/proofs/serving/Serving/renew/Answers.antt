use Rattle.std.proofs.Common.{◌≡◌, length}
use Rattle.afdx_port.proofs.ServingLemmas.{serving-set}
use Rattle.afdx_port.proofs.serving.Serving.renew.Goals as goal

pub returns : goal.returns
returns g c ports serving =
    let keys : length c.args.self.now.keys ≡ 24 = search in
    serving-set g.T.HasLength.facts ports c.args.self.now c.set.new.self c.args.place c.order.result.0
    c.args.port.now serving c.requires c.order.ensures.is c.order.ensures.limit
    keys c.set.ensures
