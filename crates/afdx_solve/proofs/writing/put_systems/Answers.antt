use Rattle.std.specs.Prelude.{string_bytes}
use Rattle.afdx_config.specs.Rows.{system_row}
use Rattle.afdx_solve.specs.ConfigText.{system_text}
use Rattle.afdx_solve.proofs.TextLemmas.{row-next}
use Rattle.afdx_solve.proofs.writing.put_systems.Goals as goal

pub loop-i-preserved : goal.loop-i-preserved
loop-i-preserved c =
    row-next (system_text c.args.above.now) c.args.tables.now.systems c.loop-i.i (system_row c.system.result.now)
    (string_bytes c.args.text.now) (string_bytes c.loop-i.text) _ c.system.ensures.row c.loop-i.invariant
    c.in_ok-put_system.ensures
