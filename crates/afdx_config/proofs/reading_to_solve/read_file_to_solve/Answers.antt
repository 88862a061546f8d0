use Rattle.std.proofs.Common.{sym}
use Rattle.toml.specs.View.{table_view}
use Rattle.afdx_config.proofs.InSwitchLemmas.{read-in_switch}
use Rattle.afdx_config.proofs.reading_to_solve.read_file_to_solve.Goals as goal

pub returns-in-One-clause-ok : goal.returns-in-One-clause-ok
returns-in-One-clause-ok c =
    let read = read-in_switch 0 c.in_ok-tree.tree c.tree_of.result c.in_ok-tree.ensures in
    let (utf8, parsed) = rw read at c.tree_of.ensures.tree in
    let told = read-in_switch 0 c.in_ok-asked-in-One.asked c.latencies_in.result c.in_ok-asked-in-One.ensures in
    let asked = rw told at c.latencies_in.ensures.latencies in
    let tree = table_view c.in_ok-tree.tree in
    let stated = rw c.in-One.is at c.in_ok-tables.ensures.one in
    let lawful = rw c.in-One.is at c.in_ok-tables.ensures.lawful in
    ((utf8, (tree, parsed, stated)), lawful, (utf8, (tree, parsed, sym asked)))
