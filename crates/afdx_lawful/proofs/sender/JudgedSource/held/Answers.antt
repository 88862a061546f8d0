use Rattle.std.proofs.Common.{arith}
use Rattle.afdx_frame.specs.declared.link.Side.TheVariants.{A, B}
use Rattle.afdx_lawful.proofs.CountLemmas.{held_few}
use Rattle.afdx_lawful.proofs.StandLemmas.{open_a, open_b}
use Rattle.afdx_lawful.proofs.sender.JudgedSource.held.Goals as goal

pub returns-clause-recent : goal.returns-clause-recent
returns-clause-recent c s c' time h not =
    let sides = c.args.self.now.sides in
    omega (
      arith,
      c.held.ensures,
      held_few s c' time A sides.a h.sides.here (open_a s c' sides h.sides c'.reached h.course.by_time time not),
      held_few s c' time B sides.b h.sides.there (open_b s c' sides h.sides c'.reached h.course.by_time time not),
    )
