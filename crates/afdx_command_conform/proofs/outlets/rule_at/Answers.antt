use Rattle.std.proofs.Common.{sym, ap, ◌∙◌}
use Rattle.std.proofs.lemmas.Option.{same_Some}
use Rattle.afdx_law_bounds.specs.Tables.{rule_of as rule_in}
use Rattle.afdx_config.specs.Rows.{link_row, system_row}
use Rattle.afdx_command_conform.proofs.OutletLemmas.{rule-same}
use Rattle.afdx_command_conform.proofs.outlets.rule_at.Goals as goal

pub returns : goal.returns
returns c l at =
    let row = link_row c.link-link.result.now in
    c.in-Some.ensures.given ∙ rule-same c.args.tables.now row (system_row c.system-sender.result.now)
    c.system-sender.ensures.row
    ∙ ap (λ x. rule_in c.args.tables.now x) (same_Some row l (sym c.link-link.ensures.row ∙ at))
