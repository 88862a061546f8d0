use Rattle.afdx_law_bounds.proofs.BoundLemmas.{few_wait}
use Rattle.afdx_law_bounds.proofs.laws.waiting_is_bounded.Goals as goal

pub returns : goal.returns
returns g c = few_wait
