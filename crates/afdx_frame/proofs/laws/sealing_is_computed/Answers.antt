use Rattle.afdx_frame.proofs.SealingLemmas.{sealing_is_computed}
use Rattle.afdx_frame.proofs.laws.sealing_is_computed.Goals as goal

pub returns : goal.returns
returns c = sealing_is_computed
