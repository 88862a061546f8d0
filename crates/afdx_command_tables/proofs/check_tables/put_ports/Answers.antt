use Rattle.afdx_text.specs.Texts.{text_bytes}
use Rattle.afdx_command_tables.proofs.CheckLemmas.{port_lines-none, port_lines-next}
use Rattle.afdx_command_tables.proofs.check_tables.put_ports.Goals as goal

pub loop-count-init : goal.loop-count-init
loop-count-init c = port_lines-none c.args.margins c.args.tables.now (text_bytes c.args.text.now)

pub loop-count-preserved : goal.loop-count-preserved
loop-count-preserved c =
    port_lines-next c.args.margins c.args.tables.now c.loop-count.count (text_bytes c.args.text.now)
    (text_bytes c.loop-count.text) _
    c.loop-count.invariant c.in_ok-put_port.ensures
