use Rattle.afdx_replay.proofs.DefinedLemmas.{runs-by-definition}
use Rattle.afdx_replay.proofs.laws.runs_are_by_definition.Goals as goal

pub returns : goal.returns
returns c = runs-by-definition
