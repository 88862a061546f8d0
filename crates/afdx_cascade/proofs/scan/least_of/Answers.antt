use Rattle.std.proofs.Common.{◌≡◌, ◌<◌, ◌+◌, ◌*◌, ◌/◌, arith, length, subst}
use Rattle.std.proofs.lemmas.Option.{slice_get-get_or}
use Rattle.afdx_cascade.proofs.GroupLemmas.{IsLeastSoFar, so-far-first, so-far-next, so-far-four, so-far-all}
use Rattle.afdx_cascade.proofs.scan.least_of.Goals as goal

pub loop-group-init : goal.loop-group-init
loop-group-init c =
    so-far-first c.args.numbers.now _ c.requires
    (slice_get-get_or c.args.numbers.now 0 0 (omega (arith, c.requires)))

pub loop-group-preserved : goal.loop-group-preserved
loop-group-preserved c =
    let numbers = c.args.numbers.now in
    let at = 4 * c.loop-group.group in
    let within : at + 3 < length numbers =
    omega (arith, c.loop-group-test.true, c.loop-group.auto.group-end) in
    subst (λ n. IsLeastSoFar numbers n c.min-least.result) (omega arith)
    (so-far-four numbers at c.loop-group.least _ _ _ _ c.min-low.result c.min-high.result c.min-both.result
    c.min-least.result c.loop-group.invariant
    (slice_get-get_or numbers at 0 (omega (arith, within)))
    (slice_get-get_or numbers (at + 1) 0 (omega (arith, within)))
    (slice_get-get_or numbers (at + 2) 0 (omega (arith, within)))
    (slice_get-get_or numbers (at + 3) 0 within)
    c.min-low.ensures c.min-high.ensures c.min-both.ensures c.min-least.ensures)

pub loop-place-init : goal.loop-place-init
loop-place-init c =
    let all : c.loop-group.group ≡ length c.args.numbers.now / 4 =
    omega (arith, c.loop-group-test.false, c.loop-group.auto.group-end) in
    subst (λ n. IsLeastSoFar c.args.numbers.now (4 * n) c.loop-group.least) all c.loop-group.invariant

pub loop-place-preserved : goal.loop-place-preserved
loop-place-preserved c =
    let within : c.loop-place.place < length c.args.numbers.now =
    omega (arith, c.loop-place-test.true, c.loop-place.auto.place-end) in
    so-far-next c.args.numbers.now c.loop-place.place c.loop-place.least _
    c.min-least-in-loop-place.result c.loop-place.invariant
    (slice_get-get_or c.args.numbers.now c.loop-place.place 0 within) c.min-least-in-loop-place.ensures

pub returns : goal.returns
returns c =
    so-far-all c.args.numbers.now c.loop-place.place c.loop-place.least c.loop-place.invariant
    (omega (arith, c.loop-place-test.false, c.loop-place.auto.place-end))
