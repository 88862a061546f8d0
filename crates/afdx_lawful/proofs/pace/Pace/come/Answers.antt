use Rattle.std.proofs.Common.{rules, ◌≡◌, ◌-◌, ◌*◌, arith}
use Rattle.afdx_lawful.specs.Sources.{fast}
use Rattle.afdx_lawful.proofs.PaceLemmas.{charged_stands, kept_stands}
use Rattle.afdx_lawful.proofs.pace.Pace.come.Goals as goal

pub returns-then-level-limits-clause-stands : goal.returns-then-level-limits-clause-stands
returns-then-level-limits-clause-stands c s past x are time-is is =
    let old = c.args.self.now in
    let fallen : c.saturating_sub-level.result ≡ old.level - fast s * (c.args.time - old.time) = search rules in
    kept_stands s past x old.level old.time c.args.time c.saturating_sub-level.result 0 time-is fallen is
    (omega (arith, c.if-level-limits.true, are.room))

pub returns-clause-stands : goal.returns-clause-stands
returns-clause-stands c s past x are time-is is =
    let old = c.args.self.now in
    let fallen : c.saturating_sub-level.result ≡ old.level - fast s * (c.args.time - old.time) = search rules in
    charged_stands s past x old.level old.time c.args.time c.saturating_sub-level.result c.args.limits.now.cost
    time-is fallen is are.cost (omega (arith, c.if-level-limits.false, are.room))
