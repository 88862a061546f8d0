use Rattle.afdx_frame.proofs.SealingLemmas.{sequence_is_computed}
use Rattle.afdx_frame.proofs.laws.sequence_is_computed.Goals as goal

pub returns : goal.returns
returns c = sequence_is_computed
