use Rattle.std.proofs.Common.{◌≡◌, ℕ, true, false, [], drop, sym, ap, ◌∙◌}
use Rattle.afdx_conform.specs.Explanations.{link, charge}
use Rattle.afdx_conform.specs.Levels.{Levels, may_pass, charged}
use Rattle.afdx_conform.specs.States.{accepted_states}
use Rattle.afdx_conform.proofs.HeldLemmas.{if-true, if-false, accepted-within}
use Rattle.afdx_conform.proofs.states.StreamState.if_accepted.Goals as goal

pub returns-then-may_pass-clause-defined : goal.returns-then-may_pass-clause-defined
returns-then-may_pass-clause-defined c z x ys r e h =
    let may : may_pass (link z) z.by (charge z x) c.args.levels ≡ true =
    sym (c.may_pass.ensures.defined (link z) z.by r ∙ ap (λ (k : ℕ). may_pass (link z) z.by k c.args.levels) e)
    ∙ c.if-may_pass.true in
    let levels = c.charged.ensures.moved (link z) z.by r
    ∙ ap (λ (k : ℕ). charged (link z) z.by k c.args.levels) e in
    if-true (may_pass (link z) z.by (charge z x) c.args.levels)
    (accepted_states z x (charged (link z) z.by (charge z x) c.args.levels) c.args.self.waiting
    (drop c.args.self.passed ys)) [] may
    ∙ ap (λ (l : Levels). accepted_states z x l c.args.self.waiting (drop c.args.self.passed ys)) (sym levels)
    ∙ c.accepted.ensures.defined z x ys h

pub returns-else-may_pass-clause-defined : goal.returns-else-may_pass-clause-defined
returns-else-may_pass-clause-defined c z x ys r e h =
    let may : may_pass (link z) z.by (charge z x) c.args.levels ≡ false =
    sym (c.may_pass.ensures.defined (link z) z.by r ∙ ap (λ (k : ℕ). may_pass (link z) z.by k c.args.levels) e)
    ∙ c.if-may_pass.false in
    if-false (may_pass (link z) z.by (charge z x) c.args.levels)
    (accepted_states z x (charged (link z) z.by (charge z x) c.args.levels) c.args.self.waiting
    (drop c.args.self.passed ys)) [] may

pub returns-then-may_pass-clause-within : goal.returns-then-may_pass-clause-within
returns-then-may_pass-clause-within c frames count passed waiting near left =
    accepted-within c.args.rates.now frames count c.args.self.waiting c.charged.result c.accepted.result
    c.accepted.ensures.levels c.accepted.ensures.waiting waiting (c.accepted.ensures.passed frames passed left)
    c.charged.ensures.bounded (c.charged.ensures.near near)
