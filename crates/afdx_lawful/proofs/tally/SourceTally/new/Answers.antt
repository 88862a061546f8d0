use Rattle.afdx_lawful.proofs.TallyLemmas.{no_tally}
use Rattle.afdx_lawful.proofs.tally.SourceTally.new.Goals as goal

pub returns : goal.returns
returns c s = no_tally s
