use Rattle.std.proofs.Common.{◌+◌, arith}
use Rattle.afdx_police.specs.RuleOf.{rule_of}
use Rattle.afdx_police.proofs.EarlyLemmas.{StandsFor-wait, StandsFor-least}
use Rattle.afdx_police.proofs.policer.Policer.early.Goals as goal

pub returns-clause-fill : goal.returns-clause-fill
returns-clause-fill g c offers stands =
    let now = rw (← c.self.view_is) at (c.level_at-level.ensures.stands offers stands) in
    rw (
      ← c.self.view_is,
      c.div_ceil.ensures,
      c.saturating_sub-lack.ensures,
      c.fill_rate-rate.ensures,
      c.charge-charge.ensures,
      c.smax.ensures,
    )
    (StandsFor-wait g.C.Charge.charge_of (rule_of c.self.inside.rule) c.level_at-level.result
    offers (record { time = c.args.time; length = c.args.length }) now)

pub returns-clause-least : goal.returns-clause-least
returns-clause-least g c offers stands =
    let now = rw (← c.self.view_is) at (c.level_at-level.ensures.stands offers stands) in
    let fill = rw (← c.self.view_is) at (returns-clause-fill g c offers stands) in
    let at-most = (g.met.C.Charge.bounded (c.self.inside.rule.lmax + 20) (c.args.length + 20)
    (omega (arith, c.requires.shortest)) (omega (arith, rw (← c.self.view_is) at c.requires.longest))).1 in
    rw (← c.self.view_is)
    (StandsFor-least g.C.Charge.charge_of (rule_of c.self.inside.rule) c.level_at-level.result
    offers (record { time = c.args.time; length = c.args.length }) _ c.self.inside.rule.in_range
    at-most now fill)
