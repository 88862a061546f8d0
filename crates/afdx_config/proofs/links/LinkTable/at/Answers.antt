use Rattle.std.proofs.Common.{slice_get, sym, ap, ◌∙◌}
use Rattle.afdx_config.specs.Rows.{link_row}
use Rattle.afdx_config.proofs.EntryLemmas.{slice_get-rows}
use Rattle.afdx_config.proofs.links.LinkTable.at.Goals as goal

pub returns : goal.returns
returns c = ap (λ rs. slice_get rs c.args.index) (sym c.self.view_is)
    ∙ slice_get-rows link_row c.self.inside.by_vl.entries c.args.index c.index.result.now c.index.ensures
