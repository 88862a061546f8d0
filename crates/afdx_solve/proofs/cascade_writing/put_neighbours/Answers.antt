use Rattle.std.proofs.Common.{drop}
use Rattle.std.specs.Prelude.{string_bytes}
use Rattle.afdx_config.specs.Rows.{system_row}
use Rattle.afdx_solve.specs.CascadeText.{neighbour_text}
use Rattle.afdx_solve.proofs.TextLemmas.{row-next, at-behind}
use Rattle.afdx_solve.proofs.cascade_writing.put_neighbours.Goals as goal

pub loop-i-preserved : goal.loop-i-preserved
loop-i-preserved c =
    let t = c.args.tables.now in
    let at = at-behind t.own c.loop-i.i t.systems (system_row c.system.result.now)
    (rw c.own_count-own.ensures.count at c.system.ensures.row) in
    row-next neighbour_text (drop t.own t.systems) c.loop-i.i (system_row c.system.result.now)
    (string_bytes c.args.text.now) (string_bytes c.loop-i.text) _ at c.loop-i.invariant c.in_ok-put_neighbour.ensures
