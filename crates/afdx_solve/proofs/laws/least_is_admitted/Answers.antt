use Rattle.afdx_solve.proofs.SolvableLemmas.{least-admitted}
use Rattle.afdx_solve.proofs.laws.least_is_admitted.Goals as goal

pub returns : goal.returns
returns c = least-admitted
