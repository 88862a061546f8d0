use Rattle.afdx_input_runs.proofs.TakenLemmas.{lines-peeled}
use Rattle.afdx_input_runs.proofs.over.NumberLineOfLines.peels.Goals as goal

pub returns : goal.returns
returns g lines = lines-peeled lines
