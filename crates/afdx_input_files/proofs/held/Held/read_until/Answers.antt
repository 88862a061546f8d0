use Rattle.std.proofs.Common.{rules, arith}
use Rattle.afdx_input_files.proofs.HeldLemmas.{unread_length}
use Rattle.afdx_input_files.proofs.held.Held.read_until.Goals as goal

pub returns-in_err-refill-clause-few : goal.returns-in_err-refill-clause-few
returns-in_err-refill-clause-few g c = λ _.
    let same = c.in_err-refill.ensures.same in
    omega (arith, unread_length c.refill.new.self, same, c.refill.ensures.start, c.reads-test.true)

pub returns-in-Ended-clause-last : goal.returns-in-Ended-clause-last
returns-in-Ended-clause-last g c = λ _.
    let same = c.refill.ensures.none (search rules) in (
      c.refill.ensures.ended (search rules),
      omega (arith, unread_length c.refill.new.self, same, c.refill.ensures.start, c.reads-test.true),
    )

pub returns-clause-enough : goal.returns-clause-enough
returns-clause-enough g c = λ _. omega (arith, unread_length c.reads.self, c.reads-test.false)
