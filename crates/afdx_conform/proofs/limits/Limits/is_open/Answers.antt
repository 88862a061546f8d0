use Rattle.afdx_conform.proofs.LimitLemmas.{open-is}
use Rattle.afdx_conform.proofs.limits.Limits.is_open.Goals as goal

pub returns : goal.returns
returns c z x a at until = open-is z x c.args.self.now c.args.time c.args.end a at until
