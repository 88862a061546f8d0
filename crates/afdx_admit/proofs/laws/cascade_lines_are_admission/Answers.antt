use Rattle.afdx_admit.proofs.CascadeExactLemmas.{admitted-from, from-admitted}
use Rattle.afdx_admit.proofs.laws.cascade_lines_are_admission.Goals as goal

pub returns : goal.returns
returns c = λ switches are. (admitted-from switches are, from-admitted switches are)
