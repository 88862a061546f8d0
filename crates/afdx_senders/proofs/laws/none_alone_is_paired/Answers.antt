use Rattle.afdx_senders.proofs.ShortLemmas.{none_alone}
use Rattle.afdx_senders.proofs.laws.none_alone_is_paired.Goals as goal

pub returns : goal.returns
returns c = none_alone
