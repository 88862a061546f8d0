use Rattle.afdx_frame.proofs.LinkLemmas.{link_is_computed}
use Rattle.afdx_frame.proofs.laws.link_is_computed.Goals as goal

pub returns : goal.returns
returns c = link_is_computed
