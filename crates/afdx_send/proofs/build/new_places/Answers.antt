use Rattle.std.proofs.Common.{arith, sym, subst, ◌<◌, ◌≤◌, ◌+◌, length, slice_set, Some, ℕ}
use Rattle.afdx_send.proofs.NewLemmas.{ArePlaces, place_set, all_places}
use Rattle.afdx_send.proofs.StandLemmas.{read_at}
use Rattle.afdx_send.proofs.build.new_places.Goals as goal

pub loop-place-preserved : goal.loop-place-preserved
loop-place-preserved c =
    let lines = c.args.lines.now.items in
    let ok = c.args.lines.now.ok.0 in
    let below : c.loop-place.place < length lines = omega (arith, c.len-place-end.ensures, c.loop-place-test.true) in
    let has = read_at lines c.loop-place.place c.index.result.now below c.index.ensures in
    subst (λ (i : ℕ). ArePlaces (c.loop-place.place + 1) lines
    (slice_set c.loop-place.places.items i (Some c.loop-place.place))) (sym c.from.ensures)
    (place_set c.loop-place.place lines c.loop-place.places.items c.index.result.now
    c.loop-place.invariant has)

pub returns-clause-each : goal.returns-clause-each
returns-clause-each c =
    let ok = c.args.lines.now.ok.0 in
    let all : length c.args.lines.now.items ≤ c.loop-place.place =
    omega (arith, c.len-place-end.ensures, c.loop-place-test.false) in
    all_places c.loop-place.place c.args.lines.now.items c.loop-place.places.items c.loop-place.invariant all
