use Rattle.afdx_replay.proofs.PromisedLemmas.{replay-promised, so-far-told, none-counted}
use Rattle.afdx_replay.proofs.laws.replay_is_as_promised.Goals as goal

pub returns-clause-all : goal.returns-clause-all
returns-clause-all c = replay-promised

pub returns-clause-so_far : goal.returns-clause-so_far
returns-clause-so_far c = so-far-told

pub returns-clause-none : goal.returns-clause-none
returns-clause-none c = none-counted
