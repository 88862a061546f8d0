use Rattle.std.specs.Prelude.{[]}
use Rattle.afdx_network.specs.Network as network
use Rattle.afdx_cascade.specs.Plans.{tables_of}
use Rattle.afdx_switch.proofs.NewLemmas.{Gathered}
use Rattle.afdx_cascade.proofs.build.new_networks.Given as goal

abbrev pub invariant-loop-place : goal.invariant-loop-place
invariant-loop-place l =
    Gathered (λ k n. network.StandsFor (tables_of l.switches k) n [] × network.IsUntil n 0)
    l.place l.networks.items
