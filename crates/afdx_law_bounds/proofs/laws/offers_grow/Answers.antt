use Rattle.afdx_law_bounds.proofs.OutputLemmas.{sent-offered, unsent-not}
use Rattle.afdx_law_bounds.proofs.laws.offers_grow.Goals as goal

pub returns-clause-sent : goal.returns-clause-sent
returns-clause-sent g c = sent-offered

pub returns-clause-unsent : goal.returns-clause-unsent
returns-clause-unsent g c = unsent-not
