use Rattle.std.proofs.Common.{◌≡◌}
use Rattle.afdx_solve.specs.Short.{first_of, short_link}
use Rattle.afdx_solve.proofs.short.first_short.Given as goal

abbrev pub invariant-loop-i : goal.invariant-loop-i
invariant-loop-i l = l.first ≡ first_of (short_link l.apart l.tables) l.i
