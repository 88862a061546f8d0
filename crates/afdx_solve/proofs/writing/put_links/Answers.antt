use Rattle.std.specs.Prelude.{string_bytes}
use Rattle.afdx_config.specs.Rows.{link_row}
use Rattle.afdx_solve.specs.ConfigText.{link_text}
use Rattle.afdx_solve.proofs.TextLemmas.{row-next}
use Rattle.afdx_solve.proofs.writing.put_links.Goals as goal

pub loop-i-preserved : goal.loop-i-preserved
loop-i-preserved c =
    row-next (link_text c.args.above.now c.args.tables.now.systems) c.args.tables.now.links c.loop-i.i
    (link_row c.link.result.now)
    (string_bytes c.args.text.now) (string_bytes c.loop-i.text) _ c.link.ensures.row c.loop-i.invariant
    c.in_ok-put_link.ensures
