use Rattle.std.proofs.Common.{◌≡◌}
use Rattle.afdx_solve.specs.Solved.{greatest_need}
use Rattle.afdx_solve.proofs.solving.greatest_need.Given as goal

abbrev pub invariant-loop-i : goal.invariant-loop-i
invariant-loop-i l = l.greatest ≡ greatest_need l.tables l.i
