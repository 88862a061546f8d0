use Rattle.afdx_comport.proofs.CallLemmas.{first_in_first_out}
use Rattle.afdx_comport.proofs.laws.first_in_first_out.Goals as goal

pub returns : goal.returns
returns c = first_in_first_out
