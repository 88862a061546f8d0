use Rattle.afdx_config.specs.Rows.{link_row}
use Rattle.afdx_command_conform.proofs.OutletLemmas.{receiver-known}
use Rattle.afdx_command_conform.proofs.outlets.receiver.Goals as goal

pub returns-clause-known : goal.returns-clause-known
returns-clause-known c = receiver-known c.args.tables.now c.link.result.now c.args.rank c.index.result.now
    c.link.ensures.lawful_row (c.requires.rank (link_row c.link.result.now) c.link.ensures.row) c.index.ensures
