use Rattle.std.proofs.Common.{ℕ, ◌+◌, ap, ◌∙◌}
use Rattle.std.specs.Prelude.{min}
use Rattle.afdx_lawful.specs.Tallies.{most_counted}
use Rattle.afdx_lawful.proofs.TallyLemmas.{come_tally}
use Rattle.afdx_lawful.proofs.tally.SourceTally.come.Goals as goal

pub returns : goal.returns
returns c s c' x quiet is =
    come_tally s c' x c.args.self.now c.args.is_quiet c.saturating_add-self.result quiet
    (c.saturating_add-self.ensures
    ∙ ap (λ (n : ℕ). min (c.args.self.now.quiet + n) most_counted) c.one_if.ensures) is
