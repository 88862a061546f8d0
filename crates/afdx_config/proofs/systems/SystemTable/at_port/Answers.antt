use Rattle.std.proofs.Common.{◌≡◌, sym, ap, ◌∙◌, position, ◌==◌}
use Rattle.std.specs.Option.{option_map}
use Rattle.std.specs.Map.{values_of}
use Rattle.afdx_config.specs.Rows.{system_row}
use Rattle.afdx_config.specs.Reading.{system_at_port}
use Rattle.afdx_config.proofs.EntryLemmas.{position-values}
use Rattle.afdx_config.proofs.systems.SystemTable.at_port.Goals as goal

pub returns-clause-place : goal.returns-clause-place
unfolding system_at_port
returns-clause-place c =
    let found : c.place_of_port.result
    ≡ position (λ s. s.port == c.args.port) (values_of c.self.inside.by_name.entries) =
    c.place_of_port.ensures in
    sym c.in_ok-index.was ∙ found
    ∙ position-values system_row (λ r. r.port == c.args.port) c.self.inside.by_name.entries
    ∙ ap (λ rs. system_at_port rs c.args.port) c.self.view_is

pub returns-in_err-index-clause-place : goal.returns-in_err-index-clause-place
unfolding system_at_port
returns-in_err-index-clause-place c =
    let found : c.place_of_port.result
    ≡ position (λ s. s.port == c.args.port) (values_of c.self.inside.by_name.entries) =
    c.place_of_port.ensures in
    ap (λ o. option_map (λ i. i.0) o) c.from_residual.ensures ∙ sym c.in_err-index.was ∙ found
    ∙ position-values system_row (λ r. r.port == c.args.port) c.self.inside.by_name.entries
    ∙ ap (λ rs. system_at_port rs c.args.port) c.self.view_is
