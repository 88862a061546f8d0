use Rattle.std.proofs.Common.{◌-◌, arith}
use Rattle.afdx_receive.proofs.StepsLemmas.{none_to_zero, distance_on, distance_around, within_distance, within_nowhere}
use Rattle.afdx_lawful.proofs.last.is_behind.Goals as goal

pub returns-then-other-eq0 : goal.returns-then-other-eq0
returns-then-other-eq0 c =
    within_nowhere 45 c.args.number c.args.other (none_to_zero c.args.number c.args.other (omega arith))

pub returns-then-other-number : goal.returns-then-other-number
returns-then-other-number c =
    within_distance 45 c.args.number c.args.other (c.args.other - c.args.number)
    (distance_on c.args.number c.args.other (omega arith) (omega arith))

pub returns-else-other-number : goal.returns-else-other-number
returns-else-other-number c =
    within_distance 45 c.args.number c.args.other (255 - (c.args.number - c.args.other))
    (distance_around c.args.number c.args.other (omega arith) (omega arith) (omega arith))
