use Rattle.afdx_conform.specs.Marks.{arrival_of}
use Rattle.afdx_conform.proofs.OverLemmas.{known-closed}
use Rattle.afdx_conform.proofs.deciding.is_open_by.Goals as goal

pub returns-in-None : goal.returns-in-None
returns-in-None c z limits known = known-closed z (arrival_of c.args.arrived.now) c.args.end c.in-None.is known
