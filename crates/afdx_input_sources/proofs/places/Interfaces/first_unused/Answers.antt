use Rattle.std.proofs.Common.{arith, refl, ◌≡◌, ◌∙◌, ◌-◌, ap, sym, true, false}
use Rattle.std.specs.Option.{is_some}
use Rattle.afdx_input_sources.specs.Places.{first_unused_behind, place_of}
use Rattle.afdx_input_sources.proofs.UnusedLemmas.{first-last, first-next}
use Rattle.afdx_input_sources.proofs.places.Interfaces.first_unused.Goals as goal

pub loop-number-init : goal.loop-number-init
unfolding first_unused_behind
loop-number-init c = refl

pub loop-number-preserved : goal.loop-number-preserved
loop-number-preserved c =
    sym (first-next (place_of c.args.self.now) c.loop-number.number false c.loop-number-test.true
    (ap is_some (sym c.place.ensures) ∙ sym c.is_some.ensures ∙ c.if-is_some.false))
    ∙ c.loop-number.invariant

pub returns-then-is_some : goal.returns-then-is_some
returns-then-is_some c =
    sym (first-next (place_of c.args.self.now) c.loop-number.number true c.loop-number-test.true
    (ap is_some (sym c.place.ensures) ∙ sym c.is_some.ensures ∙ c.if-is_some.true))
    ∙ c.loop-number.invariant

pub returns : goal.returns
returns c =
    let none : 4096 - c.loop-number.number ≡ 0 = omega (arith, c.loop-number-test.false) in
    sym (first-last (place_of c.args.self.now) c.loop-number.number none) ∙ c.loop-number.invariant
