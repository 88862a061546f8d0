use Rattle.afdx_cascade.proofs.laws.nothing_has_happened.Goals as goal
use Rattle.afdx_cascade.proofs.FrontLemmas.{start-keeps}

pub returns : goal.returns
returns c = start-keeps
