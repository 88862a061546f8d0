use Rattle.afdx_cascade.proofs.laws.arrivals_go_on.Goals as goal
use Rattle.afdx_cascade.proofs.FrontLemmas.{front-can, front-keeps, line-keeps}

pub returns : goal.returns
returns c = record { can = front-can; front = front-keeps; line = line-keeps }
