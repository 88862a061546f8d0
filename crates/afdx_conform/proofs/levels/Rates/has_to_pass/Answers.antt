use Rattle.std.proofs.Common.{refl, ◌∙◌}
use Rattle.afdx_conform.proofs.LevelLemmas.{rated-cost}
use Rattle.afdx_conform.proofs.levels.Rates.has_to_pass.Goals as goal

pub returns-clause-defined : goal.returns-clause-defined
returns-clause-defined c link by r =
    let cost = c.cost.ensures ∙ rated-cost link by c.args.self.now c.args.charge r in
    rw (cost, r.full) refl
