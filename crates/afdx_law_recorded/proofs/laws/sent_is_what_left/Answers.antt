use Rattle.afdx_law_recorded.proofs.OneSideLemmas.{sent_left}
use Rattle.afdx_law_recorded.proofs.laws.sent_is_what_left.Goals as goal

pub returns : goal.returns
returns c = sent_left
