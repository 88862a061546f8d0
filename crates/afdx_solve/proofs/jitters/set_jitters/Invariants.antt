use Rattle.std.proofs.Common.{◌≡◌}
use Rattle.afdx_solve.specs.Solved.{with_jitter}
use Rattle.afdx_solve.proofs.StageLemmas.{with_links, changed_first}
use Rattle.afdx_solve.proofs.jitters.set_jitters.Given as goal

abbrev pub invariant-loop-i : goal.invariant-loop-i
invariant-loop-i l =
    l.tables ≡ with_links l.fn.tables (changed_first (with_jitter l.options l.fn.tables) l.i l.fn.tables.links)
