use Rattle.afdx_command_senders.proofs.AllJudgedLemmas.{none_alone_judged}
use Rattle.afdx_command_senders.proofs.laws.none_alone_is_judged.Goals as goal

pub returns : goal.returns
returns c = none_alone_judged
