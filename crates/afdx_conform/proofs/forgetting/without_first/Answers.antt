use Rattle.std.proofs.Common.{rules, ◌<◌, length}
use Rattle.afdx_conform.proofs.LoopLemmas.{changed-next}
use Rattle.afdx_conform.proofs.forgetting.without_first.Goals as goal

pub loop-place-preserved : goal.loop-place-preserved
loop-place-preserved c =
    let inside : c.loop-place.place < length c.loop-place.held.items = search rules in
    let before : c.loop-place.place < length c.args.held.now.items = search rules in
    changed-next c.args.count c.loop-place.place c.saturating_sub.result c.args.held.now.items c.loop-place.held.items
    c.index_mut.result.now before c.loop-place.invariant c.index.result.now c.index_mut.ensures.value c.index.ensures
    inside
    c.saturating_sub.ensures
