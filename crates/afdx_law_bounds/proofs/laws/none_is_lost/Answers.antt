use Rattle.afdx_law_bounds.proofs.AdmittedLemmas.{none-lost}
use Rattle.afdx_law_bounds.proofs.laws.none_is_lost.Goals as goal

pub returns : goal.returns
returns g c = none-lost c.accounts_move.ensures
