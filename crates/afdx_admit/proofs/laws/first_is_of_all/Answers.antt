use Rattle.afdx_frame.proofs.FalseLinesLemmas.{first-of_all}
use Rattle.afdx_admit.proofs.laws.first_is_of_all.Goals as goal

pub returns : goal.returns
returns c = first-of_all
