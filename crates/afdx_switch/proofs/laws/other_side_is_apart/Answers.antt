use Rattle.afdx_switch.proofs.LawLemmas.{other-side-apart}
use Rattle.afdx_switch.proofs.laws.other_side_is_apart.Goals as goal

pub returns : goal.returns
returns c = other-side-apart
