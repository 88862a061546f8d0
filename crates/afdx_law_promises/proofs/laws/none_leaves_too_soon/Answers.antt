use Rattle.afdx_law_promises.proofs.NoSoonerLemmas.{none-ends-too-soon, none-leaves-too-soon, none-leaves-too-soon-so-far}
use Rattle.afdx_law_promises.proofs.laws.none_leaves_too_soon.Goals as goal

pub returns-clause-slots : goal.returns-clause-slots
returns-clause-slots c = none-ends-too-soon

pub returns-clause-all : goal.returns-clause-all
returns-clause-all c = none-leaves-too-soon

pub returns-clause-so_far : goal.returns-clause-so_far
returns-clause-so_far c = none-leaves-too-soon-so-far
