use Rattle.std.proofs.Common.{sym, ap, ◌∙◌, true}
use Rattle.std.proofs.lemmas.Option.{same_Some}
use Rattle.std.specs.Option.{option_map_or}
use Rattle.afdx_config.specs.Rows.{LinkRow, link_row, system_row}
use Rattle.afdx_input_lines.specs.declared.role.Role.TheVariants.{Came}
use Rattle.afdx_input_sources.specs.Tapping.{taps_in}
use Rattle.afdx_command_conform.specs.Sight.{sight_in}
use Rattle.afdx_command_conform.specs.Tapped.{is_heard}
use Rattle.afdx_command_conform.proofs.OutletLemmas.{port-is}
use Rattle.afdx_command_conform.proofs.tapped.is_heard.Goals as goal

pub returns-clause-is : goal.returns-clause-is
returns-clause-is c l at =
    let t = c.args.tables.now in
    let sight = sight_in c.args.tables.now c.args.taps.now in
    let row = link_row c.link.result.now in
    c.is_tapped.ensures
    ∙ ap (λ p. taps_in c.args.taps.now Came c.args.side p)
    (sym (port-is t row.from (system_row c.system.result.now) c.system.ensures.row))
    ∙ ap (λ (r : LinkRow). is_heard t sight c.args.side r) (same_Some row l (sym c.link.ensures.row ∙ at))

pub returns-clause-at : goal.returns-clause-at
returns-clause-at c =
    let t = c.args.tables.now in
    let sight = sight_in c.args.tables.now c.args.taps.now in
    let row = link_row c.link.result.now in
    c.is_tapped.ensures
    ∙ ap (λ p. taps_in c.args.taps.now Came c.args.side p)
    (sym (port-is t row.from (system_row c.system.result.now) c.system.ensures.row))
    ∙ sym (ap (λ o. option_map_or (is_heard t sight c.args.side) o true) c.link.ensures.row)
