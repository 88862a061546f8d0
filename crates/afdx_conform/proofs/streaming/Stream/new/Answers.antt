use Rattle.std.proofs.Common.{sym, subst}
use Rattle.afdx_police.specs.Rule.{Rule, regulation_of}
use Rattle.afdx_police.specs.RuleOf.{rule_of}
use Rattle.afdx_conform.specs.Accounts.{AreRates}
use Rattle.afdx_conform.specs.Ahead.{until_then}
use Rattle.afdx_conform.specs.Leeway.{Leeway}
use Rattle.afdx_conform.proofs.StandingEnds.{stands-new}
use Rattle.afdx_conform.proofs.streaming.Stream.new.Goals as goal

pub returns-clause-stands : goal.returns-clause-stands
returns-clause-stands c z time rule latency byte by =
    let rates = subst (λ (r : Rule). AreRates (regulation_of r) z.by c.new-rates.result) (sym rule)
    (subst (λ (b : Leeway). AreRates (regulation_of (rule_of c.args.rule.now)) b c.new-rates.result) (sym by)
    c.new-rates.ensures) in
    stands-new z time _ (λ until. c.new-growth.ensures.after (until_then until z)
    (record { rates = rates; limits = c.new-limits.ensures (until_then until z) latency byte by }) by)
