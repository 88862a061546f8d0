use Rattle.afdx_cascade.proofs.laws.cables_bring_all.Goals as goal
use Rattle.afdx_cascade.proofs.PartLemmas.{cables-bring}
use Rattle.afdx_cascade.proofs.WaitLemmas.{cables-bring-first}

pub returns : goal.returns
returns c = record { all = cables-bring; so_far = cables-bring-first }
