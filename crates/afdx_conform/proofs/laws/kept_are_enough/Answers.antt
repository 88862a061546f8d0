use Rattle.afdx_conform.proofs.ThinLemmas.{kept_enough}
use Rattle.afdx_conform.proofs.laws.kept_are_enough.Goals as goal

pub returns : goal.returns
returns c = kept_enough
