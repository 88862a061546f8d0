use Rattle.std.proofs.Common.{◌≡◌, arith, length}
use Rattle.afdx_lawful.proofs.LastLemmas.{more_last}
use Rattle.afdx_lawful.proofs.last.LastCame.come.Goals as goal

pub returns : goal.returns
returns c past x time number are =
    let size : length c.args.self.now.behind ≡ 256 = search in
    more_last c.args.self.now.behind past x c.args.time c.args.number (omega (arith, size)) time number are
