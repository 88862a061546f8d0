use Rattle.std.proofs.Common.{◌≡◌, ℕ, nat_lt, ◌||◌, List, [], ◌∷◌, refl, sym, ap, ◌∙◌, rules, tests}
use Rattle.std.specs.List.{list_any}
use Rattle.std.proofs.lemmas.Iterator.{YieldsList-from_slice}
use Rattle.std.proofs.lemmas.Iterator.Search.{any_from_yields_List}
use Rattle.afdx_config.specs.declared.rows.SystemId.{SystemId}
use Rattle.afdx_config.specs.Rows.{system_places}
use Rattle.afdx_admit.proofs.cascade_lines.goes_to_system.Goals as goal

any_own : (own : ℕ) (ids : List SystemId) → list_any (λ place. nat_lt place own) (system_places ids)
    ≡ list_any (λ i. nat_lt i.0 own) ids
any_own own [] = refl
any_own own (i ∷ ids) = ap (λ b. nat_lt i.0 own || b) (any_own own ids)

pub returns : goal.returns
returns c =
    let own = c.args.tables.now.own in
    let ids = c.args.link.now.to.items in
    any_from_yields_List (λ (i : SystemId). nat_lt i.0 own) _ _ _ c.any.ensures.ran
    (YieldsList-from_slice ids cc) (λ x b q k. search (rules, tests))
    ∙ sym (any_own own ids)
