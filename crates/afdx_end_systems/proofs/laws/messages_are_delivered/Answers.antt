use Rattle.afdx_end_systems.proofs.LawLemmas.{messages-delivered}
use Rattle.afdx_end_systems.proofs.laws.messages_are_delivered.Goals as goal

pub returns : goal.returns
returns c = messages-delivered
