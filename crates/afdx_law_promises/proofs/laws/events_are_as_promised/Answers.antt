use Rattle.afdx_law_promises.proofs.EventLemmas.{as-promised, so-far-promised}
use Rattle.afdx_law_promises.proofs.laws.events_are_as_promised.Goals as goal

pub returns-clause-all : goal.returns-clause-all
returns-clause-all c = as-promised

pub returns-clause-so_far : goal.returns-clause-so_far
returns-clause-so_far c = so-far-promised
