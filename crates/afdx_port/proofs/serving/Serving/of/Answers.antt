use Rattle.std.proofs.Common.{◌≡◌, ◌<◌, length, refl, arith}
use Rattle.std.proofs.lemmas.Option.{slice_get_read}
use Rattle.afdx_port.proofs.ServingLemmas.{ranked-none, no-keys, keys-next, all-keys}
use Rattle.afdx_port.proofs.serving.Serving.of.Goals as goal

pub invariant_of-serving : goal.invariant_of-serving
invariant_of-serving g c = record { ranked = ∣ ranked-none ∣₁ }

pub loop-place-init : goal.loop-place-init
loop-place-init g c = no-keys g.T.HasLength.facts c.args.ports.now

pub loop-place-preserved : goal.loop-place-preserved
loop-place-preserved g c =
    let within : c.loop-place.place < length c.args.ports.now = omega (arith, c.loop-place-test.true, c.requires) in
    let at = slice_get_read c.args.ports.now (length c.args.ports.now) c.loop-place.place
    c.index-ports-place.result refl within c.index-ports-place.is in
    keys-next g.T.HasLength.facts c.args.ports.now c.loop-place.serving.keys
    c.set.new.self.keys c.loop-place.place c.order.result.0 c.index-ports-place.result
    c.loop-place-test.true at c.loop-place.invariant c.order.ensures.is c.order.ensures.limit
    c.set.ensures

pub returns : goal.returns
returns g c =
    let all : c.loop-place.place ≡ length c.args.ports.now =
    omega (arith, c.loop-place-test.false, c.loop-place.auto.place-end, c.requires) in
    all-keys g.T.HasLength.facts c.args.ports.now c.loop-place.serving c.loop-place.place all
    c.requires c.loop-place.invariant
