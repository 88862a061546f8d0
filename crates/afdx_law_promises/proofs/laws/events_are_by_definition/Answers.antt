use Rattle.afdx_law_promises.proofs.DefinitionLemmas.{losses-by-definition, events-by-definition, so-far-by-definition}
use Rattle.afdx_law_promises.proofs.laws.events_are_by_definition.Goals as goal

pub returns-clause-all : goal.returns-clause-all
returns-clause-all c = events-by-definition

pub returns-clause-so_far : goal.returns-clause-so_far
returns-clause-so_far c = so-far-by-definition

pub returns-clause-losses : goal.returns-clause-losses
returns-clause-losses c = losses-by-definition
