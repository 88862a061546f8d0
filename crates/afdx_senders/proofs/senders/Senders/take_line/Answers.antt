use Rattle.std.proofs.Common.{arith}
use Rattle.afdx_senders.proofs.CountingLemmas.{if_some}
use Rattle.afdx_senders.proofs.senders.Senders.take_line.Goals as goal

pub returns-clause-less : goal.returns-clause-less
returns-clause-less c some =
    let fewer = if_some c.take_before.result c.take_before.ensures.fewer some in omega (arith, fewer)
