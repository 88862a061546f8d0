use Rattle.std.proofs.Common.{◌≡◌, ℕ, true, false, [], ◌∷◌, drop, sym, ap, ◌∙◌}
use Rattle.afdx_conform.specs.Explanations.{link, charge}
use Rattle.afdx_conform.specs.Levels.{Levels, has_to_pass, refused}
use Rattle.afdx_conform.specs.States.{state_with}
use Rattle.afdx_conform.proofs.HeldLemmas.{if-true, if-false}
use Rattle.afdx_conform.proofs.states.StreamState.if_refused.Goals as goal

pub returns-then-has_to_pass-clause-defined : goal.returns-then-has_to_pass-clause-defined
returns-then-has_to_pass-clause-defined c z x ys r e =
    let must : has_to_pass (link z) z.by (charge z x) c.args.levels ≡ true =
    sym (c.has_to_pass.ensures.defined (link z) z.by r ∙ ap (λ (k : ℕ). has_to_pass (link z) z.by k c.args.levels) e) ∙
    c.if-has_to_pass.true in
    if-true (has_to_pass (link z) z.by (charge z x) c.args.levels) []
    (state_with (drop c.args.self.passed ys) (refused (link z) z.by (charge z x) c.args.levels) c.args.self.waiting
    ∷ []) must

pub returns-else-has_to_pass-clause-defined : goal.returns-else-has_to_pass-clause-defined
returns-else-has_to_pass-clause-defined c z x ys r e =
    let must : has_to_pass (link z) z.by (charge z x) c.args.levels ≡ false =
    sym (c.has_to_pass.ensures.defined (link z) z.by r ∙ ap (λ (k : ℕ). has_to_pass (link z) z.by k c.args.levels) e) ∙
    c.if-has_to_pass.false in
    let levels = c.refused.ensures.moved (link z) z.by r
    ∙ ap (λ (k : ℕ). refused (link z) z.by k c.args.levels) e in
    if-false (has_to_pass (link z) z.by (charge z x) c.args.levels) []
    (state_with (drop c.args.self.passed ys) (refused (link z) z.by (charge z x) c.args.levels) c.args.self.waiting
    ∷ []) must
    ∙ ap (λ (l : Levels). state_with (drop c.args.self.passed ys) l c.args.self.waiting ∷ []) (sym levels)
