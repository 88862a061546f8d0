use Rattle.std.proofs.Common.{Result, Ok, Err, IsOk, IsErr}
use Rattle.afdx_solve.proofs.SolvableLemmas.{least-admitted}
use Rattle.afdx_solve.proofs.solving_cascade.solve_cascade.Goals as goal

not-both : {X Y : Type 0} (r : Result X Y) → IsErr r → IsOk r → ⊥
not-both (Ok x) e o = cc
not-both (Err y) e o = cc

pub returns-clause-none : goal.returns-clause-none
returns-clause-none c = λ err others are may admitted.
    not-both c.admit_all.result err
    (c.admit_all.ensures.exact.1 (least-admitted c.args.options c.args.switches c.set_least.new.switches others
    c.set_least.ensures.switches c.set_least.ensures.least are admitted may))
