use Rattle.afdx_solve.proofs.LoopLemmas.{AreRaised, RowSettled}
use Rattle.afdx_solve.proofs.raising.raise_rows.Given as goal

abbrev pub invariant-loop-i : goal.invariant-loop-i
invariant-loop-i l = AreRaised l.options (RowSettled l.options l.switch.0) l.fn.switches l.switches l.raised l.i
