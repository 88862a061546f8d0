use Rattle.afdx_police.proofs.EarlyLemmas.{least_wait-fill}
use Rattle.afdx_police.proofs.laws.least_wait_is_fill.Goals as goal

pub returns : goal.returns
returns c = least_wait-fill
