use Rattle.afdx_conform.proofs.KnownLemmas.{some_known}
use Rattle.afdx_conform.proofs.MomentLemmas.{over_stays}
use Rattle.afdx_conform.proofs.laws.what_is_over_stays.Goals as goal

pub returns : goal.returns
returns c = record { all = over_stays; some = some_known }
