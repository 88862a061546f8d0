use Rattle.afdx_solve.specs.Raising.{IsSettledAt}
use Rattle.afdx_solve.proofs.LoopLemmas.{AreRaised}
use Rattle.afdx_solve.proofs.raising.raise_all.Given as goal

abbrev pub invariant-loop-k : goal.invariant-loop-k
invariant-loop-k l = AreRaised l.options (IsSettledAt l.options) l.fn.switches l.switches l.raised l.k
