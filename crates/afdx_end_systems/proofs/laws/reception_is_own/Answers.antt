use Rattle.afdx_end_systems.proofs.LawLemmas.{reception-own}
use Rattle.afdx_end_systems.proofs.laws.reception_is_own.Goals as goal

pub returns : goal.returns
returns c = reception-own
