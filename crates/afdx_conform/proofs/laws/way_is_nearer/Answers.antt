use Rattle.afdx_conform.proofs.WayLemmas.{way_is_nearer}
use Rattle.afdx_conform.proofs.laws.way_is_nearer.Goals as goal

pub returns : goal.returns
returns c = way_is_nearer
