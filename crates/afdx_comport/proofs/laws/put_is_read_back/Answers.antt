use Rattle.afdx_comport.proofs.HeldLemmas.{put_and_read}
use Rattle.afdx_comport.proofs.laws.put_is_read_back.Goals as goal

pub returns : goal.returns
returns c = put_and_read
