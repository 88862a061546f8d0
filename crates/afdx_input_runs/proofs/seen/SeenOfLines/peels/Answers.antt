use Rattle.afdx_input_runs.proofs.SeeingLemmas.{seen-peeled}
use Rattle.afdx_input_runs.proofs.seen.SeenOfLines.peels.Goals as goal

pub returns : goal.returns
returns g lines = seen-peeled lines
