use Rattle.afdx_senders.proofs.OneLemmas.{told_one}
use Rattle.afdx_senders.proofs.laws.what_is_told_is_one.Goals as goal

pub returns : goal.returns
returns c = told_one
