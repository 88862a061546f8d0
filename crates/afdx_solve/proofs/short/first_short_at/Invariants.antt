use Rattle.std.proofs.Common.{◌≡◌}
use Rattle.afdx_solve.specs.Short.{first_of, short_switch}
use Rattle.afdx_solve.proofs.short.first_short_at.Given as goal

abbrev pub invariant-loop-k : goal.invariant-loop-k
invariant-loop-k l = l.first ≡ first_of (short_switch l.apart l.switches) l.k
