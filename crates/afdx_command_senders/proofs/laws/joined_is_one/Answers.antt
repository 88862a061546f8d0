use Rattle.afdx_command_senders.proofs.JoinedLemmas.{joined-one}
use Rattle.afdx_command_senders.proofs.laws.joined_is_one.Goals as goal

pub returns : goal.returns
returns c = joined-one
