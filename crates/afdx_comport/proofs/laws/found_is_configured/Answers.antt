use Rattle.afdx_comport.proofs.PlaceLemmas.{found_configured}
use Rattle.afdx_comport.proofs.laws.found_is_configured.Goals as goal

pub returns : goal.returns
returns c = found_configured
