use Rattle.std.proofs.Common.{arith, ◌+◌, ◌*◌, ◌≤◌}
use Rattle.std.proofs.Math.Nat.{mul-le-mul_right}
use Rattle.afdx_frame.specs.Regulation.{Regulation, bag, jitter, cap, fill_rate}
use Rattle.afdx_police.specs.Rule.{regulation_of}
use Rattle.afdx_police.specs.RuleOf.{rule_of}
use Rattle.afdx_police.specs.Account.{Account}
use Rattle.afdx_police.proofs.PolicerLemmas.{cap-le, StandsFor-filled}
use Rattle.afdx_police.proofs.policer.Policer.level_at.Goals as goal

-- the level and the gain are each at most a full account
pub overflow_add-self-inside : goal.overflow_add-self-inside
overflow_add-self-inside g c =
    let link : Regulation = regulation_of (rule_of c.self.inside.rule) in
    let most : cap link ≤ 20080128000000 =
    cap-le link c.self.inside.rule.in_range.bag
    (omega (arith, c.self.inside.rule.in_range.longest)) c.self.inside.rule.in_range.jitter in
    let short : c.min-gap.result ≤ bag link + jitter link = omega (arith, c.min-gap.ensures, c.fill_time.ensures) in
    let gain : c.min-gap.result * fill_rate link ≤ (bag link + jitter link) * fill_rate link =
    mul-le-mul_right (fill_rate link) short in
    rw c.fill_rate.ensures (omega (arith, most, gain, c.self.invariant))

pub returns-clause-stands : goal.returns-clause-stands
returns-clause-stands g c offers stands =
    let before : Account = record {
      rule = rule_of c.self.inside.rule;
      level = c.self.inside.level;
      time = c.self.inside.time;
    } in
    let filled = StandsFor-filled g.C.Charge.charge_of before offers c.args.time
    (rw (← c.self.view_is) at stands) (rw (← c.self.view_is) at c.requires) in
    rw (
      ← c.self.view_is,
      c.min.ensures,
      c.cap.ensures,
      c.min-gap.ensures,
      c.fill_time.ensures,
      c.fill_rate.ensures,
    ) filled
