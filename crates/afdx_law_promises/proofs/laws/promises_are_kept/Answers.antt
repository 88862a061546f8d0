use Rattle.afdx_law_promises.proofs.ToldLemmas.{kept, kept-so-far}
use Rattle.afdx_law_promises.proofs.laws.promises_are_kept.Goals as goal

pub returns-clause-all : goal.returns-clause-all
returns-clause-all c = kept

pub returns-clause-so_far : goal.returns-clause-so_far
returns-clause-so_far c = kept-so-far
