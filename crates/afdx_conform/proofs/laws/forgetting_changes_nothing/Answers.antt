use Rattle.afdx_conform.proofs.ForgettingLemmas.{forgetting_nothing}
use Rattle.afdx_conform.proofs.laws.forgetting_changes_nothing.Goals as goal

pub returns : goal.returns
returns c = forgetting_nothing
