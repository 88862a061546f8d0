use Rattle.std.proofs.Common.{◌≡◌, ◌≤◌, ◌+◌}
use Rattle.afdx_input_sources.specs.Places.{place_of, unused_behind}
use Rattle.afdx_input_sources.proofs.UnusedLemmas.{named_from}
use Rattle.afdx_input_sources.proofs.places.Interfaces.unused.Given as goal

abbrev pub invariant-loop-interface : goal.invariant-loop-interface
invariant-loop-interface l =
    (l.unused + named_from (place_of l.self) l.interface ≡ unused_behind l.count (place_of l.self))
    × (l.unused ≤ l.interface)
