use Rattle.std.proofs.Common.{arith}
use Rattle.afdx_config.specs.Rows.{link_row}
use Rattle.afdx_text.specs.Texts.{text_bytes}
use Rattle.afdx_command_tables.proofs.CheckLemmas.{no_apart, apart-next, aparts-done}
use Rattle.afdx_command_tables.proofs.check_apart.put_aparts.Goals as goal

pub loop-i-init : goal.loop-i-init
loop-i-init c = no_apart c.args.tables.now (text_bytes c.args.text.now)

pub loop-i-preserved : goal.loop-i-preserved
loop-i-preserved c =
    apart-next c.args.tables.now c.loop-i.i (link_row c.link.result.now) c.link.ensures.row
    (text_bytes c.args.text.now) (text_bytes c.loop-i.text) _ c.loop-i.invariant c.in_ok-put_apart.ensures

pub returns : goal.returns
returns c =
    aparts-done c.args.tables.now c.loop-i.i (omega (arith, c.link_count-count.ensures.count))
    (text_bytes c.args.text.now) (text_bytes c.loop-i.text) c.loop-i.invariant
