use Rattle.afdx_lawful.proofs.NearnessLemmas.{nearness_needed}
use Rattle.afdx_lawful.proofs.laws.nearness_is_needed.Goals as goal

pub returns : goal.returns
returns c = nearness_needed
