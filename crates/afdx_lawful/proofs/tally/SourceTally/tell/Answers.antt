use Rattle.std.proofs.Common.{ℕ, ◌+◌, Bool, ap, sym, ◌∙◌}
use Rattle.std.specs.Prelude.{min, if◌then◌else◌}
use Rattle.afdx_lawful.specs.Tallies.{most_counted}
use Rattle.afdx_lawful.proofs.TallyLemmas.{tell_cut, tell_lost}
use Rattle.afdx_lawful.proofs.tally.SourceTally.tell.Goals as goal

pub returns-then-is_cut : goal.returns-then-is_cut
returns-then-is_cut c s c' y cut quiet is =
    tell_cut s c' y c.args.self.now y.frame.side c.saturating_add-self.result (sym cut ∙ c.if-is_cut.true)
    c.saturating_add-self.ensures is

pub returns-else-is_cut : goal.returns-else-is_cut
returns-else-is_cut c s c' y cut quiet is =
    tell_lost s c' y c.args.self.now y.frame.side c.saturating_add-self-else-is_cut.result
    (sym cut ∙ c.if-is_cut.false)
    (c.saturating_add-self-else-is_cut.ensures
    ∙ ap (λ (n : ℕ). min (c.args.self.now.lost + n) most_counted) c.one_if.ensures
    ∙ ap (λ (b : Bool). min (c.args.self.now.lost + (if b then 1 else 0)) most_counted) quiet) is
