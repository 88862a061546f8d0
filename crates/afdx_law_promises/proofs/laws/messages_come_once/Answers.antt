use Rattle.afdx_law_promises.proofs.OnceLemmas.{messages-once, messages-so-far}
use Rattle.afdx_law_promises.proofs.laws.messages_come_once.Goals as goal

pub returns-clause-all : goal.returns-clause-all
returns-clause-all c = messages-once c.built_is_computed.ensures

pub returns-clause-so_far : goal.returns-clause-so_far
returns-clause-so_far c = messages-so-far c.built_is_computed.ensures
