use Rattle.afdx_replay.proofs.AdmittedRunLemmas.{arrivals-listed}
use Rattle.afdx_replay.proofs.laws.arrivals_are_listed.Goals as goal

pub returns : goal.returns
returns c = arrivals-listed
