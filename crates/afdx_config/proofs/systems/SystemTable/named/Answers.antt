use Rattle.std.proofs.Common.{sym, ap, ◌∙◌, string_bytes}
use Rattle.std.specs.Option.{option_map}
use Rattle.std.specs.Str.{bytes_eq}
use Rattle.afdx_config.specs.Rows.{system_row}
use Rattle.afdx_config.specs.Kept.{IsUnderItsName}
use Rattle.afdx_config.specs.Reading.{system_named}
use Rattle.afdx_config.proofs.EntryLemmas.{position-keys}
use Rattle.afdx_config.proofs.systems.SystemTable.named.Goals as goal

pub returns-clause-place : goal.returns-clause-place
unfolding system_named
returns-clause-place c =
    let found = position-keys system_row (λ r. bytes_eq c.args.name.now r.name)
    (λ k. bytes_eq c.args.name.now (string_bytes k)) IsUnderItsName
    (λ e h. ap (bytes_eq c.args.name.now) h) c.self.inside.by_name.entries c.self.invariant.1 in
    sym c.in_ok-index.was ∙ c.get_index_of.ensures.index ∙ found
    ∙ ap (λ rs. system_named rs c.args.name.now) c.self.view_is

pub returns-in_err-index-clause-place : goal.returns-in_err-index-clause-place
unfolding system_named
returns-in_err-index-clause-place c =
    let found = position-keys system_row (λ r. bytes_eq c.args.name.now r.name)
    (λ k. bytes_eq c.args.name.now (string_bytes k)) IsUnderItsName
    (λ e h. ap (bytes_eq c.args.name.now) h) c.self.inside.by_name.entries c.self.invariant.1 in
    ap (λ o. option_map (λ i. i.0) o) c.from_residual.ensures ∙ sym c.in_err-index.was
    ∙ c.get_index_of.ensures.index ∙ found ∙ ap (λ rs. system_named rs c.args.name.now) c.self.view_is
