use Rattle.afdx_law_promises.proofs.ToldLemmas.{told-once, told-once-so-far}
use Rattle.afdx_law_promises.proofs.laws.messages_are_told_once.Goals as goal

pub returns-clause-all : goal.returns-clause-all
returns-clause-all c = told-once c.built_is_computed.ensures

pub returns-clause-so_far : goal.returns-clause-so_far
returns-clause-so_far c = told-once-so-far c.built_is_computed.ensures
