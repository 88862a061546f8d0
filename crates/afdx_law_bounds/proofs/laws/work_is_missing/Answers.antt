use Rattle.afdx_law_bounds.proofs.MissingLemmas.{work-missing, high-work-missing, low-work-falls}
use Rattle.afdx_law_bounds.proofs.laws.work_is_missing.Goals as goal

pub returns-clause-all : goal.returns-clause-all
returns-clause-all g c = work-missing

pub returns-clause-high : goal.returns-clause-high
returns-clause-high g c = high-work-missing

pub returns-clause-low : goal.returns-clause-low
returns-clause-low g c = low-work-falls c.accounts_move.ensures
