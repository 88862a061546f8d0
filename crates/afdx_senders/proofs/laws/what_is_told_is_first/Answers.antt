use Rattle.afdx_senders.proofs.BegunLemmas.{has_begun}
use Rattle.afdx_senders.proofs.laws.what_is_told_is_first.Goals as goal

pub returns : goal.returns
returns c z before xs told senders h = has_begun z before xs told _ h.lines
