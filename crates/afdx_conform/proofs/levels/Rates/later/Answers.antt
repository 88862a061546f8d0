use Rattle.std.proofs.Common.{rules, ◌≡◌, sym, subst}
use Rattle.afdx_conform.specs.Accounts.{AreNear}
use Rattle.afdx_conform.specs.Levels.{Levels, levels_with, later}
use Rattle.afdx_conform.proofs.LevelLemmas.{near-later}
use Rattle.afdx_conform.proofs.levels.Rates.later.Goals as goal

pub returns-clause-near : goal.returns-clause-near
returns-clause-near c link by r near =
    let moved : levels_with c.saturating_sub.result c.saturating_sub-2.result ≡ later link by c.args.ns c.args.levels =
    search rules in
    subst (λ (l : Levels). AreNear c.args.self.now l) (sym moved)
    (near-later link by c.args.self.now c.args.levels c.args.ns r near)
