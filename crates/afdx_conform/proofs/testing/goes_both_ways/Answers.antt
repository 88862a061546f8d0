use Rattle.std.proofs.Common.{ℕ, Bool, sym, ap, ◌∙◌}
use Rattle.std.specs.Prelude.{not, ◌&&◌}
use Rattle.afdx_conform.specs.Explanations.{link, charge, levels_then}
use Rattle.afdx_conform.specs.Levels.{Levels, later, may_pass, has_to_pass}
use Rattle.afdx_conform.specs.Marks.{arrival_of}
use Rattle.afdx_conform.proofs.testing.goes_both_ways.Goals as goal

pub returns-then-may_pass : goal.returns-then-may_pass
returns-then-may_pass c z ys last r j ns =
    let moved = c.later-levels.ensures.moved (link z) z.by r
    ∙ ap (λ (n : ℕ). later (link z) z.by n c.args.state.levels) ns in
    let may = sym (c.may_pass.ensures.defined (link z) z.by r
    ∙ ap (λ (k : ℕ). may_pass (link z) z.by k c.later-levels.result) j.charge
    ∙ ap (λ (v : Levels). may_pass (link z) z.by (charge z (arrival_of c.args.arrived.now)) v) moved)
    ∙ c.if-may_pass.true in
    let must = c.has_to_pass.ensures.defined (link z) z.by r
    ∙ ap (λ (k : ℕ). has_to_pass (link z) z.by k c.later-levels.result) j.charge
    ∙ ap (λ (v : Levels). has_to_pass (link z) z.by (charge z (arrival_of c.args.arrived.now)) v) moved in
    ap (λ (b : Bool). not b) must
    ∙ ap (λ (b : Bool). b && not (has_to_pass (link z) z.by (charge z (arrival_of c.args.arrived.now))
    (levels_then z c.args.state.levels last (arrival_of c.args.arrived.now)))) (sym may)

pub returns-else-may_pass : goal.returns-else-may_pass
returns-else-may_pass c z ys last r j ns =
    let moved = c.later-levels.ensures.moved (link z) z.by r
    ∙ ap (λ (n : ℕ). later (link z) z.by n c.args.state.levels) ns in
    let may = sym (c.may_pass.ensures.defined (link z) z.by r
    ∙ ap (λ (k : ℕ). may_pass (link z) z.by k c.later-levels.result) j.charge
    ∙ ap (λ (v : Levels). may_pass (link z) z.by (charge z (arrival_of c.args.arrived.now)) v) moved)
    ∙ c.if-may_pass.false in
    ap (λ (b : Bool). b && not (has_to_pass (link z) z.by (charge z (arrival_of c.args.arrived.now))
    (levels_then z c.args.state.levels last (arrival_of c.args.arrived.now)))) (sym may)
