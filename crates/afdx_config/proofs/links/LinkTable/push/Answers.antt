use Rattle.std.proofs.Common.{◌≡◌, ◌++◌, ◌∷◌, [], length, ap, ◌∙◌, refl, arith, None, nat_eq, length-append}
use Rattle.afdx_frame.proofs.ListLemmas.{AllByRecursion-push}
use Rattle.afdx_config.specs.Rows.{link_row}
use Rattle.afdx_config.specs.Kept.{IsUnderItsIdentifier, link_rows}
use Rattle.afdx_config.specs.Reading.{link_of}
use Rattle.afdx_config.proofs.EntryLemmas.{insert_entry-fresh, rows_of-push, length-rows}
use Rattle.afdx_config.proofs.links.LinkTable.push.Goals as goal

pub invariant_of-self-2 : goal.invariant_of-self-2
unfolding link_of
invariant_of-self-2 c =
    let es = c.self.inside.by_vl.entries in
    let vl = c.args.link.vl in
    let none : link_of (link_rows es) vl.0 ≡ None = ap (λ rs. link_of rs vl.0) c.self.view_is ∙ c.requires.fresh in
    let e = c.in_ok-insert.ensures.entries
    ∙ insert_entry-fresh link_row (λ r. nat_eq vl.0 r.vl) (λ k. nat_eq vl.0 k.0)
    IsUnderItsIdentifier (λ x h. ap (nat_eq vl.0) h) es c.self.invariant.1 none _ vl c.args.link
    (λ k. refl) in
    rw e (
      omega (
        arith,
        length-append es ((vl, c.args.link) ∷ []),
        length-rows link_row es,
        ap length c.self.view_is,
        c.requires.room,
      ),
      AllByRecursion-push IsUnderItsIdentifier es (vl, c.args.link) c.self.invariant.1 refl,
    )

pub returns : goal.returns
unfolding link_of
returns c =
    let es = c.self.inside.by_vl.entries in
    let vl = c.args.link.vl in
    let none : link_of (link_rows es) vl.0 ≡ None = ap (λ rs. link_of rs vl.0) c.self.view_is ∙ c.requires.fresh in
    let e = c.in_ok-insert.ensures.entries
    ∙ insert_entry-fresh link_row (λ r. nat_eq vl.0 r.vl) (λ k. nat_eq vl.0 k.0)
    IsUnderItsIdentifier (λ x h. ap (nat_eq vl.0) h) es c.self.invariant.1 none _ vl c.args.link
    (λ k. refl) in
    ap link_rows e ∙ rows_of-push link_row es (vl, c.args.link)
    ∙ ap (λ rs. rs ++ link_row c.args.link ∷ []) c.self.view_is
