use Rattle.afdx_cascade.proofs.laws.cables_are_read.Goals as goal
use Rattle.afdx_cascade.proofs.ReadLemmas.{cables-read}

pub returns : goal.returns
returns c = cables-read
