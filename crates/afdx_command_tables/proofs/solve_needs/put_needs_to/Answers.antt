use Rattle.std.specs.Prelude.{string_bytes}
use Rattle.afdx_config.specs.Rows.{link_row}
use Rattle.afdx_command_tables.proofs.SolveLemmas.{no_link, link-next}
use Rattle.afdx_command_tables.proofs.solve_needs.put_needs_to.Goals as goal

pub loop-i-init : goal.loop-i-init
loop-i-init c =
    no_link c.args.at.now.switch.now c.args.tables.now c.args.asked.now c.args.at.now.port c.args.at.now.end.0
    (string_bytes c.args.text.now)

pub loop-i-preserved : goal.loop-i-preserved
loop-i-preserved c =
    let t = c.args.tables.now in
    let row = link_row c.link.result.now in
    let at = c.args.at.now in
    link-next at.switch.now t c.args.asked.now at.port at.end.0 c.loop-i.i row c.link.ensures.row
    (string_bytes c.args.text.now) (string_bytes c.loop-i.text) _ c.loop-i.invariant
    (rw c.asked_by-latency.ensures at (c.in_ok-put_need.ensures t c.requires))
