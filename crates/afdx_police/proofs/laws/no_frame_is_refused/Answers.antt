use Rattle.afdx_police.proofs.FrameLemmas.{no_frame}
use Rattle.afdx_police.proofs.laws.no_frame_is_refused.Goals as goal

pub returns : goal.returns
returns c = no_frame
