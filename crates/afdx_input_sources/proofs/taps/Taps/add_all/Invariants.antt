use Rattle.afdx_input_sources.specs.Places.{place_of}
use Rattle.afdx_input_sources.specs.Tapping.{taps_in}
use Rattle.afdx_input_sources.proofs.TapLemmas.{AreTappedUpTo}
use Rattle.afdx_input_sources.proofs.taps.Taps.add_all.Given as goal

abbrev pub invariant-loop-interface : goal.invariant-loop-interface
invariant-loop-interface l = AreTappedUpTo (place_of l.interfaces) (taps_in l.fn.self) (taps_in l.self) l.interface
