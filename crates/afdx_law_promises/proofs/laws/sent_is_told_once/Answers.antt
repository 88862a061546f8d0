use Rattle.afdx_law_promises.proofs.SentLemmas.{sent-is-fed, stream-of-sendings, released-once, released-so-far, one-side}
use Rattle.afdx_law_promises.proofs.laws.sent_is_told_once.Goals as goal

pub returns-clause-fed : goal.returns-clause-fed
returns-clause-fed c = sent-is-fed c.built_is_computed.ensures

pub returns-clause-stream : goal.returns-clause-stream
returns-clause-stream c = stream-of-sendings c.built_is_computed.ensures

pub returns-clause-once : goal.returns-clause-once
returns-clause-once c = released-once c.built_is_computed.ensures

pub returns-clause-so_far : goal.returns-clause-so_far
returns-clause-so_far c = released-so-far c.built_is_computed.ensures

pub returns-clause-one_side : goal.returns-clause-one_side
returns-clause-one_side c = one-side c.built_is_computed.ensures
