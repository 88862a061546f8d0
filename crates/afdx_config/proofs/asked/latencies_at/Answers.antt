use Rattle.std.proofs.lemmas.List.{take_all}
use Rattle.toml.specs.View.{table_view}
use Rattle.afdx_config.specs.Keys.{spot_of}
use Rattle.afdx_config.specs.Trees.{trees}
use Rattle.afdx_config.proofs.AskedLemmas.{all-asked}
use Rattle.afdx_config.proofs.asked.latencies_at.Goals as goal

pub returns-clause-latencies : goal.returns-clause-latencies
returns-clause-latencies c =
    let here = c.deref-link-items.ensures.value in
    let items = c.deref-link-items.result.now in
    let all = take_all c.loop-link.link-index items c.loop-link-test.false in
    all-asked (spot_of c.args.at) (table_view c.args.table.now) (trees items) c.loop-link.asked.items
    (rw (← here) at c.in_ok-links.ensures.tables) (rw all at c.loop-link.invariant)
