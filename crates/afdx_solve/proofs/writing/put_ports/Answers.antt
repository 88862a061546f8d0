use Rattle.std.specs.Prelude.{string_bytes}
use Rattle.afdx_config.specs.Rows.{port_row}
use Rattle.afdx_solve.specs.ConfigText.{port_text}
use Rattle.afdx_solve.proofs.TextLemmas.{row-next}
use Rattle.afdx_solve.proofs.writing.put_ports.Goals as goal

pub loop-i-preserved : goal.loop-i-preserved
loop-i-preserved c =
    row-next (port_text c.args.above.now c.args.tables.now.systems) c.args.tables.now.ports c.loop-i.i
    (port_row c.com.result.now)
    (string_bytes c.args.text.now) (string_bytes c.loop-i.text) _ c.com.ensures.row c.loop-i.invariant
    c.in_ok-put_port.ensures
