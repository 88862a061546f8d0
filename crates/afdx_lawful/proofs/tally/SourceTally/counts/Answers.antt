use Rattle.afdx_lawful.proofs.CountLemmas.{few_told}
use Rattle.afdx_lawful.proofs.TallyLemmas.{tells_all}
use Rattle.afdx_lawful.proofs.tally.SourceTally.counts.Goals as goal

pub returns : goal.returns
returns c s c' is course told few =
    tells_all s c' course told c.args.self.now c.saturating_sub.result is c.saturating_sub.ensures
    (few_told s c' told) few
