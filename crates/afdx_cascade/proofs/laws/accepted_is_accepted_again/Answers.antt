use Rattle.afdx_cascade.proofs.CableLemmas.{again}
use Rattle.afdx_cascade.proofs.laws.accepted_is_accepted_again.Goals as goal

pub returns : goal.returns
returns c = again
