use Rattle.std.proofs.Common.{ℕ, ap, ◌∙◌}
use Rattle.afdx_conform.specs.Explanations.{link, charge}
use Rattle.afdx_conform.specs.Levels.{Levels, later, may_pass}
use Rattle.afdx_conform.specs.Marks.{arrival_of}
use Rattle.afdx_conform.proofs.testing.may_go_from.Goals as goal

pub returns : goal.returns
returns c z ys last r j ns =
    c.may_pass.ensures.defined (link z) z.by r
    ∙ ap (λ (k : ℕ). may_pass (link z) z.by k c.later-levels.result) j.charge
    ∙ ap (λ (v : Levels). may_pass (link z) z.by (charge z (arrival_of c.args.arrived.now)) v)
    (c.later-levels.ensures.moved (link z) z.by r ∙ ap (λ (n : ℕ). later (link z) z.by n c.args.state.levels) ns)
