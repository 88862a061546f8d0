use Rattle.afdx_config.proofs.LookUpLemmas.{listeners}
use Rattle.afdx_config.proofs.laws.systems_listen.Goals as goal

pub returns : goal.returns
returns c = listeners
