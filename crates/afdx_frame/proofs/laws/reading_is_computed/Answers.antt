use Rattle.afdx_frame.proofs.ReadingLemmas.{reading_is_computed}
use Rattle.afdx_frame.proofs.laws.reading_is_computed.Goals as goal

pub returns : goal.returns
returns c = reading_is_computed
