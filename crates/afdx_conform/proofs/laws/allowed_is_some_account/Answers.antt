use Rattle.afdx_conform.proofs.FromLevelLemmas.{allowed_some}
use Rattle.afdx_conform.proofs.laws.allowed_is_some_account.Goals as goal

pub returns : goal.returns
returns c = allowed_some
