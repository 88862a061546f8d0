use Rattle.std.proofs.Common.{slice_get, sym, ap, ◌∙◌}
use Rattle.afdx_config.specs.Rows.{system_row}
use Rattle.afdx_config.proofs.EntryLemmas.{slice_get-rows}
use Rattle.afdx_config.proofs.systems.SystemTable.at.Goals as goal

pub returns : goal.returns
returns c = ap (λ rs. slice_get rs c.args.id.0) (sym c.self.view_is)
    ∙ slice_get-rows system_row c.self.inside.by_name.entries c.args.id.0 c.index.result.now
    c.index.ensures
