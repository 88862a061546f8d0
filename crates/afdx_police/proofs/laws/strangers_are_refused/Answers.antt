use Rattle.afdx_police.proofs.ShapeLemmas.{stranger_refused}
use Rattle.afdx_police.proofs.laws.strangers_are_refused.Goals as goal

pub returns : goal.returns
returns c = stranger_refused
