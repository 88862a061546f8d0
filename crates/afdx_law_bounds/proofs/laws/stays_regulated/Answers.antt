use Rattle.afdx_law_bounds.proofs.NextLemmas.{start-regulated, next-regulated}
use Rattle.afdx_law_bounds.proofs.laws.stays_regulated.Goals as goal

pub returns-clause-start : goal.returns-clause-start
returns-clause-start g c = start-regulated

pub returns-clause-next : goal.returns-clause-next
returns-clause-next g c = next-regulated
