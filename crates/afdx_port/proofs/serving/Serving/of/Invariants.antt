use Rattle.afdx_port.proofs.ServingLemmas.{HaveKeys}
use Rattle.afdx_port.proofs.serving.Serving.of.Given as goal

abbrev pub invariant-loop-place : goal.invariant-loop-place
invariant-loop-place g l = HaveKeys g.T.HasLength.facts l.ports l.serving.keys l.place
