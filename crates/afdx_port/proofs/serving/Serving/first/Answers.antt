use Rattle.std.proofs.Common.{◌≡◌, length, refl}
use Rattle.afdx_port.proofs.ServingLemmas.{first-served}
use Rattle.afdx_port.proofs.serving.Serving.first.Goals as goal

pub returns : goal.returns
returns g c ports serving =
    let groups : length c.args.self.now.least ≡ 6 = search in
    first-served g.T.HasLength.facts ports c.args.self.now c.least_in.result
    groups serving c.least_in.ensures _ refl
