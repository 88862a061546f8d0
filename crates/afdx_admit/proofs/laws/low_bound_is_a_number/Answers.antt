use Rattle.afdx_admit.proofs.LowBoundLemmas.{low_bound-number}
use Rattle.afdx_admit.proofs.laws.low_bound_is_a_number.Goals as goal

pub returns : goal.returns
returns c = low_bound-number
