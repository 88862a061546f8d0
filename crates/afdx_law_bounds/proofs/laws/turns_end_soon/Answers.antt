use Rattle.afdx_law_bounds.proofs.BoundLemmas.{all-high, all-low}
use Rattle.afdx_law_bounds.proofs.laws.turns_end_soon.Goals as goal

pub returns-clause-high : goal.returns-clause-high
returns-clause-high g c = all-high

pub returns-clause-low : goal.returns-clause-low
returns-clause-low g c = all-low
