use Rattle.afdx_law_recorded.proofs.MessageLemmas.{both_carry_same, each_carries_one}
use Rattle.afdx_law_recorded.proofs.ToldLemmas.{recorded_told_once}
use Rattle.afdx_law_recorded.proofs.laws.recorded_is_told_once.Goals as goal

pub returns : goal.returns
returns c = record { once = recorded_told_once; each = each_carries_one; same = both_carry_same }
