use Rattle.std.proofs.Common.{◌∙◌, sym}
use Rattle.afdx_input_sources.specs.Places.{place_of}
use Rattle.afdx_input_sources.specs.Tapping.{taps_in}
use Rattle.afdx_input_sources.proofs.PlacingLemmas.{none-if}
use Rattle.afdx_input_sources.proofs.TapLemmas.{tapped-more, tapped-none, tapped-unsaid}
use Rattle.afdx_input_sources.proofs.taps.Taps.add_all.Goals.{in-Some, in_default}
use Rattle.afdx_input_sources.proofs.taps.Taps.add_all.Goals as goal

pub loop-interface-init : goal.loop-interface-init
loop-interface-init c = tapped-none (place_of c.args.interfaces.now) (taps_in c.args.self.now)

pub loop-interface-preserved : goal.loop-interface-preserved
loop-interface-preserved c =
    let places = place_of c.args.interfaces.now in
    let old = taps_in c.args.self.now in
    let now = taps_in c.loop-interface.self in
    let k = c.loop-interface.interface in
    elim c.match-place.branch [
      | in-Some w ↦
          rw w.self-is (tapped-more places old k now (taps_in w.add.new.self) c.loop-interface.invariant
          w.in-Some.place (sym c.place.ensures ∙ w.in-Some.is) w.add.ensures)
      | in_default w ↦
          rw w.self-is (tapped-unsaid places old k now c.loop-interface.invariant
          (sym c.place.ensures ∙ none-if c.place.result w.in_default.not-Some))
    ]
