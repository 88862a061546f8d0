use Rattle.afdx_conform.proofs.OpenLemmas.{open_least}
use Rattle.afdx_conform.proofs.laws.open_is_least.Goals as goal

pub returns : goal.returns
returns c = open_least
