use Rattle.afdx_solve.proofs.CascadeLeastLemmas.{admitted-allow}
use Rattle.afdx_solve.proofs.laws.admitted_allow.Goals as goal

pub returns : goal.returns
returns c = admitted-allow
