use Rattle.std.proofs.Common.{sym, ◌∙◌}
use Rattle.afdx_solve.proofs.DelayLemmas.{need-stands}
use Rattle.afdx_solve.proofs.solving.need_to.Goals as goal

pub returns : goal.returns
returns c =
    let b = c.bounds_to-bounds.ensures.bounds in
    b.buffer ∙ sym (need-stands c.args.tables.now c.args.system.0 b.row b.stands)
