use Rattle.afdx_cascade.proofs.KeptLemmas.{keeps-all, keeps-so-far}
use Rattle.afdx_cascade.proofs.laws.cascades_keep_end_to_end.Goals as goal

pub returns-clause-all : goal.returns-clause-all
returns-clause-all c = keeps-all c.built_is_computed.ensures

pub returns-clause-so_far : goal.returns-clause-so_far
returns-clause-so_far c = keeps-so-far c.built_is_computed.ensures
