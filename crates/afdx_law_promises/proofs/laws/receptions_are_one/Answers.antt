use Rattle.afdx_law_promises.proofs.EventLemmas.{events-bring}
use Rattle.afdx_law_promises.proofs.MergeLemmas.{receptions-one, receptions-exist}
use Rattle.afdx_law_promises.proofs.laws.receptions_are_one.Goals as goal

pub returns-clause-exist : goal.returns-clause-exist
returns-clause-exist c = receptions-exist

pub returns-clause-only : goal.returns-clause-only
returns-clause-only c = receptions-one

pub returns-clause-events : goal.returns-clause-events
returns-clause-events c = λ t arrivals events port lawful. events-bring t arrivals events port lawful
