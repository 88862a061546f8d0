use Rattle.std.proofs.Common.{◌<◌, ℕ, arith, refl, slice_index_or}
use Rattle.std.proofs.lemmas.Option.{slice_get_read, slice_get-get_or}
use Rattle.afdx_switch.proofs.ForwardLemmas.{none-renewed, renewed-next, all-renewed}
use Rattle.afdx_switch.proofs.switch_state.renew.Goals as goal

pub loop-place-init : goal.loop-place-init
loop-place-init c = λ old is.
    none-renewed c.args.places.now old c.args.ports.now c.args.serving.now is

pub loop-place-preserved : goal.loop-place-preserved
loop-place-preserved c =
    let inv = c.loop-place.invariant in
    let place : ℕ = slice_index_or c.args.places.now c.loop-place.place-index 0 in
    let here = slice_get-get_or c.args.places.now c.loop-place.place-index 0 c.loop-place-test.true in
    let below : place < 24 = c.requires.places.within c.loop-place.place-index place here in
    let at = slice_get_read c.args.ports.now _ place c.index-ports-place.result refl
    (omega (arith, below, c.requires.port_count)) c.index-ports-place.is in
    λ old is. renewed-next c.args.places.now old c.args.ports.now c.loop-place.serving
    c.renew.new.self c.loop-place.place-index place c.index-ports-place.result
    (inv old is) here below at c.renew.ensures

pub returns : goal.returns
returns c old is kept =
    all-renewed c.args.places.now old c.args.ports.now c.loop-place.serving c.loop-place.place-index
    (omega (arith, c.loop-place-test.false, c.loop-place.auto.place-index-end))
    c.requires.port_count kept (c.loop-place.invariant old is)
