use Rattle.std.proofs.Common.{arith, ◌≡◌, ◌∙◌, ◌-◌, ap, sym, true, false}
use Rattle.std.specs.List.{count_by, range_with_len}
use Rattle.std.specs.Option.{is_some}
use Rattle.afdx_input_sources.specs.Places.{place_of, unused_behind}
use Rattle.afdx_input_sources.proofs.UnusedLemmas.{named-next}
use Rattle.afdx_input_sources.proofs.places.Interfaces.unused.Goals.{then-is_some, else-is_some}
use Rattle.afdx_input_sources.proofs.places.Interfaces.unused.Goals as goal

pub loop-interface-init : goal.loop-interface-init
unfolding unused_behind
loop-interface-init c = (omega arith, omega arith)

pub overflow_add-unused : goal.overflow_add-unused
overflow_add-unused c = omega (arith, c.loop-interface.invariant.1, c.loop-interface-test.true)

pub loop-interface-preserved : goal.loop-interface-preserved
loop-interface-preserved c =
    let old = c.loop-interface.invariant in
    elim c.if-is_some.branch [
      | then-is_some w ↦
          let next = named-next (place_of c.args.self.now) c.loop-interface.interface true c.loop-interface-test.true
          (ap is_some (sym c.place.ensures) ∙ sym c.is_some.ensures ∙ w.if-is_some.true) in
          (omega (arith, old.0, next, w.unused-is), omega (arith, old.1, w.unused-is))
      | else-is_some w ↦
          let next = named-next (place_of c.args.self.now) c.loop-interface.interface false c.loop-interface-test.true
          (ap is_some (sym c.place.ensures) ∙ sym c.is_some.ensures ∙ w.if-is_some.false) in
          (omega (arith, old.0, next, w.unused-is), omega (arith, old.1, w.unused-is))
    ]

pub returns : goal.returns
returns c =
    let none : 4096 - c.loop-interface.interface ≡ 0 = omega (arith, c.loop-interface-test.false) in
    let all = c.loop-interface.invariant.0 in
    omega (
      arith,
      all,
      ap (λ n. count_by (λ k. is_some (place_of c.args.self.now k))
          (range_with_len c.loop-interface.interface n)) none,
    )
