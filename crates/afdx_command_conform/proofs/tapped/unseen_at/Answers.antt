use Rattle.std.proofs.Common.{ap, sym, ◌∙◌}
use Rattle.std.specs.Prelude.{if◌then◌else◌}
use Rattle.afdx_command_conform.proofs.tapped.unseen_at.Goals as goal

pub returns-then-is_judged-clause-count : goal.returns-then-is_judged-clause-count
returns-then-is_judged-clause-count c l at =
    sym (ap (λ v. if v then 0 else 1) (sym (c.is_judged.ensures l at) ∙ c.if-is_judged.true))

pub returns-else-is_judged-clause-count : goal.returns-else-is_judged-clause-count
returns-else-is_judged-clause-count c l at =
    sym (ap (λ v. if v then 0 else 1) (sym (c.is_judged.ensures l at) ∙ c.if-is_judged.false))
