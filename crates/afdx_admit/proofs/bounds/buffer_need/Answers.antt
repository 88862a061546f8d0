use Rattle.std.proofs.Common.{sym, ◌∙◌}
use Rattle.afdx_admit.proofs.PortLemmas.{idle-bounds}
use Rattle.afdx_admit.proofs.bounds.buffer_need.Goals as goal

pub returns-clause-no_system : goal.returns-clause-no_system
returns-clause-no_system c none =
    c.bounds_at.ensures.buffer ∙ sym (idle-bounds c.args.tables.now c.args.port none).buffer
