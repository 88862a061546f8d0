use Rattle.std.proofs.Common.{arith}
use Rattle.afdx_frame.specs.declared.link.Side.TheVariants.{A, B}
use Rattle.afdx_lawful.proofs.StandLemmas.{next_a, next_alone, next_b, next_other}
use Rattle.afdx_lawful.proofs.sides.BothSides.next.Goals as goal

pub returns-in-Some-oldest-clause-next : goal.returns-in-Some-oldest-clause-next
returns-in-Some-oldest-clause-next c =
    next_other c.in-Some-oldest.b c.args.self.now.a.waiting c.args.self.now.b.waiting
    (c.in_default.ensures.time A) (c.in-Some-oldest.ensures.time B)

pub returns-then-b-a-clause-next : goal.returns-then-b-a-clause-next
returns-then-b-a-clause-next c =
    next_b c.in-Some.a c.in-Some-oldest-2.b c.args.self.now.a.waiting c.args.self.now.b.waiting
    (c.in-Some.ensures.time A) (c.in-Some-oldest-2.ensures.time B) (omega (arith, c.if-b-a.true))

pub returns-else-b-a-clause-next : goal.returns-else-b-a-clause-next
returns-else-b-a-clause-next c =
    next_a c.in-Some.a c.in-Some-oldest-2.b c.args.self.now.a.waiting c.args.self.now.b.waiting
    (c.in-Some.ensures.time A) (c.in-Some-oldest-2.ensures.time B) (omega (arith, c.if-b-a.false))

pub returns-in-None-oldest-clause-next : goal.returns-in-None-oldest-clause-next
returns-in-None-oldest-clause-next c =
    next_alone c.in-Some.a c.args.self.now.a.waiting c.args.self.now.b.waiting
    (c.in-Some.ensures.time A) (c.in-None-oldest.ensures.time B)
