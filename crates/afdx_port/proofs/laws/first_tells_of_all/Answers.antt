use Rattle.afdx_port.proofs.FirstLemmas.{all-quiet}
use Rattle.afdx_port.proofs.laws.first_tells_of_all.Goals as goal

pub returns : goal.returns
returns g c = λ ports place until p served at quiet.
    all-quiet g.T.HasLength.facts ports place served p at until quiet
