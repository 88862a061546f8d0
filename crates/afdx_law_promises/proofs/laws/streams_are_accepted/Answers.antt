use Rattle.afdx_law_promises.proofs.AcceptedLemmas.{told-accepted, told-so-far-accepted}
use Rattle.afdx_law_promises.proofs.laws.streams_are_accepted.Goals as goal

pub returns-clause-told : goal.returns-clause-told
returns-clause-told c = told-accepted c.built_is_computed.ensures

pub returns-clause-told_so_far : goal.returns-clause-told_so_far
returns-clause-told_so_far c = told-so-far-accepted c.built_is_computed.ensures
