use Rattle.std.proofs.Common.{◌∙◌, refl, arith}
use Rattle.afdx_conform.proofs.LevelLemmas.{rated-cost, levels-same}
use Rattle.afdx_conform.proofs.levels.Rates.refused.Goals as goal

pub returns-clause-moved : goal.returns-clause-moved
returns-clause-moved c link by r =
    let cost = c.cost-cost.ensures ∙ rated-cost link by c.args.self.now c.args.charge r in
    let full = r.full in
    let most = c.max.ensures in
    let less = c.saturating_sub.ensures in
    levels-same _ _ _ _ (omega (arith, cost, full, most, less)) refl
