use Rattle.std.proofs.Common.{sym, ap, ◌∙◌}
use Rattle.afdx_config.specs.Rows.{system_row}
use Rattle.afdx_input_lines.specs.declared.role.Role.TheVariants.{Left}
use Rattle.afdx_input_sources.specs.Tapping.{taps_in}
use Rattle.afdx_command_conform.proofs.OutletLemmas.{port-is}
use Rattle.afdx_command_conform.proofs.tapped.is_seen.Goals as goal

pub returns : goal.returns
returns c =
    c.is_tapped.ensures ∙ ap (λ p. taps_in c.args.taps.now Left c.args.side p)
    (sym (port-is c.args.tables.now c.args.system.0 (system_row c.system.result.now) c.system.ensures.row))
