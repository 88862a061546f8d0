use Rattle.afdx_law_promises.proofs.PortLemmas.{left-so-far}
use Rattle.afdx_law_promises.proofs.PromiseLemmas.{promises-kept}
use Rattle.afdx_law_promises.proofs.laws.ports_are_as_promised.Goals as goal

pub returns-clause-all : goal.returns-clause-all
returns-clause-all c = promises-kept

pub returns-clause-so_far : goal.returns-clause-so_far
returns-clause-so_far c = left-so-far
