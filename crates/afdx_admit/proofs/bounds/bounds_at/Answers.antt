use Rattle.afdx_config.specs.Reading.{system_at_port}
use Rattle.afdx_admit.proofs.PortLemmas.{idle-bounds, not-some}
use Rattle.afdx_admit.proofs.bounds.bounds_at.Goals as goal

pub returns-in-None : goal.returns-in-None
returns-in-None c =
    idle-bounds c.args.tables.now c.args.port
    (not-some (system_at_port c.args.tables.now.systems c.args.port)
    (rw c.in-None.is at c.bounds_of.ensures.known))
