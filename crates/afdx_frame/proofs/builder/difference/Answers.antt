use Rattle.std.proofs.Common.{◌-◌, arith}
use Rattle.afdx_frame.proofs.NetworkLemmas.{difference_at}
use Rattle.afdx_frame.proofs.builder.difference.Goals as goal

pub returns : goal.returns
returns c = difference_at (c.args.length - 60) (omega arith)
