use Rattle.std.proofs.Common.{◌<◌, arith, length}
use Rattle.std.proofs.lemmas.Option.{slice_get-get_or}
use Rattle.afdx_port.proofs.ServingLemmas.{least-next}
use Rattle.afdx_port.proofs.serving.least_in.Goals as goal

pub loop-place-preserved : goal.loop-place-preserved
loop-place-preserved c =
    let within : c.loop-place.place < length c.args.numbers.now =
    omega (arith, c.loop-place-test.true, c.requires.within, c.loop-place.auto.place-end) in
    record {
      some = omega (arith, c.loop-place.invariant.some);
      seen = least-next c.args.numbers.now c.args.from c.loop-place.place c.loop-place.least _
          c.min-least.result c.loop-place.invariant.seen
          (slice_get-get_or c.args.numbers.now c.loop-place.place 0 within) c.min-least.ensures;
    }
