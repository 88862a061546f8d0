use Rattle.afdx_cascade.proofs.laws.turns_go_on.Goals as goal
use Rattle.afdx_cascade.proofs.KeepLemmas.{turn-keeps}

pub returns : goal.returns
returns c = turn-keeps
