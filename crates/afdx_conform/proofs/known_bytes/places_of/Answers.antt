use Rattle.std.proofs.Common.{rules, ◌≡◌, ◌≤◌, length, take, get_or, sym, ap, ◌∙◌, arith}
use Rattle.std.proofs.lemmas.List.{length-take-le}
use Rattle.afdx_conform.specs.declared.arrived.Arrived.{Arrived}
use Rattle.afdx_conform.proofs.PlacesLemmas.{from-none, kept-more, kept-next}
use Rattle.afdx_conform.proofs.known_bytes.places_of.Goals as goal

pub loop-place-init : goal.loop-place-init
loop-place-init c bytes = c.new-places.ensures bytes ∙ sym (from-none bytes 0)

pub loop-place-preserved : goal.loop-place-preserved
loop-place-preserved c =
    let lt = c.loop-place-test.true in
    let le : c.loop-place.place ≤ length c.args.arrivals.now = omega (arith, lt) in
    let is : c.index-arrivals-place.result ≡ get_or c.args.arrivals.now c.loop-place.place
    c.index-arrivals-place.result = search rules in
    let here = get_or c.args.arrivals.now c.loop-place.place c.index-arrivals-place.result in
    let same : here ≡ get_or c.args.arrivals.now c.loop-place.place here =
    ap (λ (a : Arrived). get_or c.args.arrivals.now c.loop-place.place a) is in
    kept-next c.add.new.self c.args.arrivals.now c.loop-place.place here lt same
    (kept-more c.loop-place.places c.add.new.self (take c.loop-place.place c.args.arrivals.now) here
    c.loop-place.place (sym (length-take-le c.loop-place.place c.args.arrivals.now le)) c.in_ok-add.ensures
    c.loop-place.invariant)
