use Rattle.afdx_police.specs.RuleOf.{rule_of}
use Rattle.afdx_police.proofs.PolicerLemmas.{StandsFor-full}
use Rattle.afdx_police.proofs.policer.Policer.new.Goals as goal

pub returns-clause-stands : goal.returns-clause-stands
returns-clause-stands g c = rw c.cap.ensures (StandsFor-full g.C.Charge.charge_of (rule_of c.args.rule.now))
