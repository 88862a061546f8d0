use Rattle.afdx_lawful.proofs.AcceptedLemmas.{lawful_accepted}
use Rattle.afdx_lawful.proofs.laws.lawful_is_accepted.Goals as goal

pub returns : goal.returns
returns c = lawful_accepted
