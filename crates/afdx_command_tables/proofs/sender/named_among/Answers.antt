use Rattle.afdx_command_tables.proofs.SenderLemmas.{are-known, are-own}
use Rattle.afdx_command_tables.proofs.sender.named_among.Goals as goal

pub returns-clause-known : goal.returns-clause-known
returns-clause-known c =
    are-known c.args.switches.now c.args.name.now c.system_named.result c.system_named.ensures.place

pub returns-clause-own : goal.returns-clause-own
returns-clause-own c =
    are-own c.args.switches.now c.args.name.now c.system_named.result c.system_named.ensures.place
