use Rattle.afdx_receive.proofs.ReceptionLemmas.{answer_own}
use Rattle.afdx_receive.proofs.laws.answer_is_own.Goals as goal

pub returns : goal.returns
returns c = answer_own
