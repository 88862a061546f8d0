use Rattle.afdx_frame.proofs.CarriedLemmas.{datagram_is_computed}
use Rattle.afdx_frame.proofs.laws.datagram_is_computed.Goals as goal

pub returns : goal.returns
returns c = datagram_is_computed
