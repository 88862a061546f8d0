use Rattle.afdx_cascade.proofs.MessageLemmas.{first-messages, messages-once, messages-so-far, one-side}
use Rattle.afdx_cascade.proofs.laws.messages_come_end_to_end.Goals as goal

pub returns-clause-all : goal.returns-clause-all
returns-clause-all c = messages-once c.built_is_computed.ensures

pub returns-clause-one_side : goal.returns-clause-one_side
returns-clause-one_side c = one-side c.built_is_computed.ensures

pub returns-clause-so_far : goal.returns-clause-so_far
returns-clause-so_far c = messages-so-far c.built_is_computed.ensures

pub returns-clause-first : goal.returns-clause-first
returns-clause-first c = first-messages c.built_is_computed.ensures
