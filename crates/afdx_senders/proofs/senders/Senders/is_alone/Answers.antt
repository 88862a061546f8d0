use Rattle.std.proofs.Common.{◌≡◌, ◌∙◌, ap₂, sym, subst}
use Rattle.std.specs.Prelude.{slice_get, Some}
use Rattle.afdx_config.specs.Rows.{Rows}
use Rattle.afdx_frame.proofs.ListLemmas.{slice_get-within}
use Rattle.afdx_senders.specs.Terms.{is_paired}
use Rattle.afdx_senders.proofs.CountsLemmas.{none_alone, seen_alone}
use Rattle.afdx_senders.proofs.senders.Senders.is_alone.Goals as goal

pub returns-then-has : goal.returns-then-has
returns-then-has c z before xs told h =
    let t = c.args.self.now.sites.tables.now in
    let place = c.args.place in
    let row = slice_get-within t.links place c.requires in
    seen_alone z xs h.at h.own place row.0
    (subst (λ (r : Rows). slice_get r.links place ≡ Some row.0) h.setup.tables row.1)
    c.is_paired-is_paired.result
    (c.is_paired-is_paired.ensures row.0 row.1
    ∙ ap₂ (λ r seen. is_paired r seen row.0) h.setup.tables h.setup.recorded)
    (sym c.if-has.true ∙ c.has-has.ensures h.at h.stand.followed)

pub returns-else-has : goal.returns-else-has
returns-else-has c z before xs told h =
    c.if-has.false
    ∙ none_alone z xs h.at h.own c.args.place (sym c.if-has.false ∙ c.has-has.ensures h.at h.stand.followed)
