use Rattle.afdx_solve.proofs.CascadeLeastLemmas.{least-one}
use Rattle.afdx_solve.proofs.laws.least_is_one.Goals as goal

pub returns : goal.returns
returns c = least-one
