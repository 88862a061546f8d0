use Rattle.afdx_comport.proofs.PlaceLemmas.{stays}
use Rattle.afdx_comport.proofs.laws.found_stays.Goals as goal

pub returns : goal.returns
returns c = stays
