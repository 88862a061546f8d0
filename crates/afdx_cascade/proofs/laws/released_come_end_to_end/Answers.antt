use Rattle.afdx_cascade.proofs.ReleasedLemmas.{one-side-brings, released-once, released-so-far}
use Rattle.afdx_cascade.proofs.laws.released_come_end_to_end.Goals as goal

pub returns-clause-once : goal.returns-clause-once
returns-clause-once c = released-once c.built_is_computed.ensures

pub returns-clause-so_far : goal.returns-clause-so_far
returns-clause-so_far c = released-so-far c.built_is_computed.ensures

pub returns-clause-one_side : goal.returns-clause-one_side
returns-clause-one_side c = one-side-brings c.built_is_computed.ensures
