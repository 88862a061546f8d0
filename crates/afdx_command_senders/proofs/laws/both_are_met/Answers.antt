use Rattle.afdx_command_senders.proofs.BothMetLemmas.{both_met}
use Rattle.afdx_command_senders.proofs.laws.both_are_met.Goals as goal

pub returns : goal.returns
returns c = both_met
