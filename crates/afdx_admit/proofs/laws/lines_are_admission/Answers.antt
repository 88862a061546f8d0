use Rattle.afdx_admit.proofs.ExactLemmas.{admitted_from, from_admitted}
use Rattle.afdx_admit.proofs.laws.lines_are_admission.Goals as goal

pub returns : goal.returns
returns c = λ t lawful. (admitted_from t lawful, from_admitted t lawful)
