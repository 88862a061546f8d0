use Rattle.std.specs.Prelude.{string_bytes}
use Rattle.afdx_command_tables.proofs.SolveLemmas.{no_port, port-next}
use Rattle.afdx_command_tables.proofs.solve_needs.put_needs.Goals as goal

pub loop-count-init : goal.loop-count-init
loop-count-init c =
    no_port c.args.switch.now c.args.tables.now c.args.asked.now (string_bytes c.args.text.now)

pub loop-count-preserved : goal.loop-count-preserved
loop-count-preserved c =
    port-next c.args.switch.now c.args.tables.now c.args.asked.now c.loop-count.count (string_bytes c.args.text.now)
    (string_bytes c.loop-count.text) _ c.loop-count.invariant c.in_ok-put_needs_at.ensures
