use Rattle.std.proofs.Common.{ap, ◌∙◌, nat_eq}
use Rattle.afdx_config.specs.Rows.{link_row}
use Rattle.afdx_config.specs.Kept.{IsUnderItsIdentifier}
use Rattle.afdx_config.specs.Reading.{link_of}
use Rattle.afdx_config.proofs.EntryLemmas.{position-keys}
use Rattle.afdx_config.proofs.links.LinkTable.of.Goals as goal

pub returns-clause-place : goal.returns-clause-place
unfolding link_of
returns-clause-place c =
    c.get_index_of.ensures.index
    ∙ position-keys link_row (λ r. nat_eq c.args.vl.0 r.vl) (λ k. nat_eq c.args.vl.0 k.0)
    IsUnderItsIdentifier (λ e h. ap (nat_eq c.args.vl.0) h) c.self.inside.by_vl.entries
    c.self.invariant.1
    ∙ ap (λ rs. link_of rs c.args.vl.0) c.self.view_is
