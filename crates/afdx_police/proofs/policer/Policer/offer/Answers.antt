use Rattle.afdx_police.specs.RuleOf.{rule_of}
use Rattle.afdx_police.proofs.PolicerLemmas.{StandsFor-answer, StandsFor-accepted, StandsFor-refused}
use Rattle.afdx_police.proofs.policer.Policer.offer.Goals as goal
use Rattle.afdx_police.proofs.policer.Policer.offer.Goals.{then-passes, else-passes}

pub returns-clause-answer : goal.returns-clause-answer
returns-clause-answer g c offers stands =
    let now = rw (← c.self.view_is) at (c.level_at-level.ensures.stands offers stands) in
    rw (← c.self.view_is, c.charge-charge.ensures, c.smax.ensures)
    (StandsFor-answer g.C.Charge.charge_of (rule_of c.self.inside.rule) c.level_at-level.result
    offers (record { time = c.args.time; length = c.args.length }) c.self.inside.rule.in_range now)

pub returns-clause-stands : goal.returns-clause-stands
returns-clause-stands g c offers stands =
    let now = rw (← c.self.view_is) at (c.level_at-level.ensures.stands offers stands) in
    elim c.if-passes.branch [
      | then-passes w ↦ rw (w.self-is, c.charge-charge.ensures, c.smax.ensures)
          (StandsFor-accepted g.C.Charge.charge_of (rule_of c.self.inside.rule)
          c.level_at-level.result offers (record { time = c.args.time; length = c.args.length })
          c.self.inside.rule.in_range now (rw (c.charge-charge.ensures, c.smax.ensures) at w.if-passes.true))
      | else-passes w ↦ rw w.self-is
          (StandsFor-refused g.C.Charge.charge_of (rule_of c.self.inside.rule)
          c.level_at-level.result offers (record { time = c.args.time; length = c.args.length })
          c.self.inside.rule.in_range now (rw (c.charge-charge.ensures, c.smax.ensures) at w.if-passes.false))
    ]
