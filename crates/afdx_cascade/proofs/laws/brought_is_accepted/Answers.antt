use Rattle.afdx_cascade.proofs.laws.brought_is_accepted.Goals as goal
use Rattle.afdx_cascade.proofs.AgainLemmas.{brought-accepted}

pub returns : goal.returns
returns c = brought-accepted
