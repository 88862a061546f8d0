use Rattle.afdx_lawful.proofs.AccusedLemmas.{right_not_accused}
use Rattle.afdx_lawful.proofs.BuiltLemmas.{built_lawful}
use Rattle.afdx_lawful.proofs.RightLemmas.{right_silent}
use Rattle.afdx_lawful.proofs.laws.right_is_silent.Goals as goal

pub returns : goal.returns
returns c = record { by_side = right_silent; alone = right_not_accused; built = built_lawful }
