use Rattle.afdx_solve.proofs.CascadeLeastLemmas.{cascade-least}
use Rattle.afdx_solve.proofs.laws.cascade_is_least.Goals as goal

pub returns : goal.returns
returns c = cascade-least
