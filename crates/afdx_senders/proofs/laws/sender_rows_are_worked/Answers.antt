use Rattle.afdx_senders.proofs.SenderRowLemmas.{all_worked}
use Rattle.afdx_senders.proofs.laws.sender_rows_are_worked.Goals as goal

pub returns : goal.returns
returns c = all_worked
