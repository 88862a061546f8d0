use Rattle.afdx_law_recorded.proofs.LeastLemmas.{least_left_least}
use Rattle.afdx_law_recorded.proofs.laws.tables_leave_the_least.Goals as goal

pub returns : goal.returns
returns c = least_left_least
