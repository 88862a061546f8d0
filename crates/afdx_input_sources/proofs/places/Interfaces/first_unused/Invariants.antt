use Rattle.std.proofs.Common.{◌≡◌}
use Rattle.afdx_input_sources.specs.Places.{first_unused_behind, place_of}
use Rattle.afdx_input_sources.proofs.UnusedLemmas.{first_from}
use Rattle.afdx_input_sources.proofs.places.Interfaces.first_unused.Given as goal

abbrev pub invariant-loop-number : goal.invariant-loop-number
invariant-loop-number l =
    first_from (place_of l.self) l.number ≡ first_unused_behind l.count (place_of l.self)
