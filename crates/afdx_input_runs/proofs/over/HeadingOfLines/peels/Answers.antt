use Rattle.afdx_input_runs.proofs.TakenLemmas.{arrivals-peeled}
use Rattle.afdx_input_runs.proofs.over.HeadingOfLines.peels.Goals as goal

pub returns : goal.returns
returns g lines = arrivals-peeled lines
