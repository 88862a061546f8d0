use Rattle.std.proofs.Common.{◌≡◌, ap, ◌∙◌, ◌==◌}
use Rattle.std.specs.List.{list_any}
use Rattle.std.specs.Map.{values_of}
use Rattle.afdx_config.specs.Rows.{system_row}
use Rattle.afdx_config.specs.Reading.{has_id}
use Rattle.afdx_config.proofs.EntryLemmas.{list_any-rows}
use Rattle.afdx_config.proofs.systems.SystemTable.has_id.Goals as goal

pub returns : goal.returns
unfolding has_id
returns c =
    let found : c.any_has_id.result
    ≡ list_any (λ s. s.id == c.args.id) (values_of c.self.inside.by_name.entries) =
    c.any_has_id.ensures in
    found ∙ list_any-rows system_row (λ r. r.id == c.args.id) c.self.inside.by_name.entries
    ∙ ap (λ rs. has_id rs c.args.id) c.self.view_is
