use Rattle.afdx_conform.proofs.CutLemmas.{right_cut}
use Rattle.afdx_conform.proofs.laws.right_is_cut.Goals as goal

pub returns : goal.returns
returns c = right_cut
