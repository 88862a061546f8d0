use Rattle.std.specs.Prelude.{[]}
use Rattle.afdx_cascade.specs.Plans.{tables_of}
use Rattle.afdx_end_systems.specs.StandsFor as systems
use Rattle.afdx_switch.proofs.NewLemmas.{Gathered}
use Rattle.afdx_replay.proofs.cascading.teller.new_systems.Given as goal

abbrev pub invariant-loop-place : goal.invariant-loop-place
invariant-loop-place l =
    Gathered (λ k s. systems.StandsFor (tables_of l.switches k) s []) l.place l.all.items
