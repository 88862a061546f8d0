use Rattle.afdx_send.proofs.NodeLemmas.{in_last}
use Rattle.afdx_send.proofs.agenda.Node.none.Goals as goal

pub returns : goal.returns
returns c = in_last
