use Rattle.afdx_end_systems.proofs.LawLemmas.{drops-have_link_reasons}
use Rattle.afdx_end_systems.proofs.laws.drops_have_link_reasons.Goals as goal

pub returns : goal.returns
returns c = drops-have_link_reasons
