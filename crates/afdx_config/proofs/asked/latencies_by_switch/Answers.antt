use Rattle.std.proofs.lemmas.List.{take_all}
use Rattle.toml.specs.View.{table_view}
use Rattle.afdx_config.specs.Asked.{lists}
use Rattle.afdx_config.specs.Trees.{trees}
use Rattle.afdx_config.proofs.AskedLemmas.{each-asked}
use Rattle.afdx_config.proofs.asked.latencies_by_switch.Goals as goal

pub returns-clause-latencies : goal.returns-clause-latencies
returns-clause-latencies c =
    let here = c.deref-switch-items.ensures.value in
    let items = c.deref-switch-items.result.now in
    let all = take_all c.loop-switch.switch-index items c.loop-switch-test.false in
    each-asked (table_view c.args.tree.now) (trees items) (lists c.loop-switch.asked.items)
    (rw (c.switches_at.ensures.spot, ← here) at c.in_ok-switches.ensures.tables) (rw all at c.loop-switch.invariant)
