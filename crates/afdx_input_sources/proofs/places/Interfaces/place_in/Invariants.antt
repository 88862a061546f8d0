use Rattle.afdx_input_sources.proofs.PlacingLemmas.{ArePutUpTo}
use Rattle.afdx_input_sources.proofs.places.Interfaces.place_in.Given as goal

abbrev pub invariant-loop-k : goal.invariant-loop-k
invariant-loop-k l = ArePutUpTo l.described l.k l.fn.self l.self
