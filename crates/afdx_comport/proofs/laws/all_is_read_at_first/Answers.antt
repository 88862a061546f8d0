use Rattle.afdx_comport.proofs.HeldLemmas.{all_read_at_first}
use Rattle.afdx_comport.proofs.laws.all_is_read_at_first.Goals as goal

pub returns : goal.returns
returns c = all_read_at_first
