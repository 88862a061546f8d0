use Rattle.afdx_switch.specs.New.{IsNewPort}
use Rattle.afdx_switch.proofs.NewLemmas.{Gathered}
use Rattle.afdx_switch.proofs.build.new_ports.Given as goal

abbrev pub invariant-loop-place : goal.invariant-loop-place
invariant-loop-place l = Gathered (λ i p. IsNewPort l.tables i p) l.place l.ports.items
