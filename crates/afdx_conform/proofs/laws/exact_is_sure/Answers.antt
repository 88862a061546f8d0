use Rattle.afdx_conform.proofs.SureLemmas.{exact_sure}
use Rattle.afdx_conform.proofs.laws.exact_is_sure.Goals as goal

pub returns : goal.returns
returns c = exact_sure
