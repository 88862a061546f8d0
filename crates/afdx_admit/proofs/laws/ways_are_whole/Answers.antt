use Rattle.afdx_admit.proofs.WayLemmas.{ways-whole}
use Rattle.afdx_admit.proofs.laws.ways_are_whole.Goals as goal

pub returns : goal.returns
returns c = ways-whole
