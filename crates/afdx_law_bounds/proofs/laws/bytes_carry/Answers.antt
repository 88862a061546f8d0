use Rattle.afdx_law_bounds.proofs.CarryLemmas.{bytes-carry}
use Rattle.afdx_law_bounds.proofs.laws.bytes_carry.Goals as goal

pub returns : goal.returns
returns g c = bytes-carry
