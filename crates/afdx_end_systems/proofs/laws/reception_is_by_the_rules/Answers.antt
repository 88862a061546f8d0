use Rattle.afdx_end_systems.proofs.LawLemmas.{reception-by_the_rules}
use Rattle.afdx_end_systems.proofs.laws.reception_is_by_the_rules.Goals as goal

pub returns : goal.returns
returns c = reception-by_the_rules
