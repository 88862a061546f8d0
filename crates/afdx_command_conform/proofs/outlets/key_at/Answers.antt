use Rattle.std.proofs.Common.{Some, sym, ap}
use Rattle.afdx_config.specs.Rows.{system_row}
use Rattle.afdx_command_conform.specs.Keys.{key_with}
use Rattle.afdx_command_conform.proofs.OutletLemmas.{port-is}
use Rattle.afdx_command_conform.proofs.outlets.key_at.Goals as goal

pub returns-clause-key : goal.returns-clause-key
returns-clause-key c = ap (λ p. key_with c.args.outlet.side p (Some c.args.outlet.link))
    (sym (port-is c.args.tables.now c.args.outlet.system.0 (system_row c.system.result.now) c.system.ensures.row))
