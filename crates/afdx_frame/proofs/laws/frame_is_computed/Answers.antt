use Rattle.afdx_frame.proofs.PartsLemmas.{frame_is_computed}
use Rattle.afdx_frame.proofs.laws.frame_is_computed.Goals as goal

pub returns : goal.returns
returns c = frame_is_computed
