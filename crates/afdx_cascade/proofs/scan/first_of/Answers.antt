use Rattle.std.proofs.Common.{◌/◌, ◌%◌, refl}
use Rattle.afdx_cascade.proofs.KeyLemmas.{least-is, first-is}
use Rattle.afdx_cascade.proofs.scan.first_of.Goals as goal

pub returns-clause-first : goal.returns-clause-first
returns-clause-first c networks keys few all is =
    first-is networks c.args.least (c.args.least / 32 % 2) c.side_of-side.result
    (least-is networks keys c.args.least few all is)
    refl c.side_of-side.ensures

pub returns-clause-within : goal.returns-clause-within
returns-clause-within c networks keys few all is =
    let l = least-is networks keys c.args.least few all is in
    rw l.switch l.within
