use Rattle.std.proofs.Common.{◌≡◌}
use Rattle.afdx_config.specs.Reading.{link_of}
use Rattle.afdx_switch.proofs.NewLemmas.{Gathered}
use Rattle.afdx_switch.proofs.build.new_places.Given as goal

abbrev pub invariant-loop-vl : goal.invariant-loop-vl
invariant-loop-vl l = Gathered (λ i place. place ≡ link_of l.tables.links i) l.vl l.places.items
