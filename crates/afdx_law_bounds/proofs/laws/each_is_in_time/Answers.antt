use Rattle.afdx_law_bounds.proofs.AdmittedLemmas.{in-time, none-too-old}
use Rattle.afdx_law_bounds.proofs.LeftLemmas.{each-left}
use Rattle.afdx_law_bounds.proofs.laws.each_is_in_time.Goals as goal

pub returns-clause-within : goal.returns-clause-within
returns-clause-within g c = in-time c.accounts_move.ensures

pub returns-clause-not_old : goal.returns-clause-not_old
returns-clause-not_old g c = none-too-old c.accounts_move.ensures

pub returns-clause-left : goal.returns-clause-left
returns-clause-left g c = each-left c.accounts_move.ensures
