use Rattle.afdx_lawful.proofs.RightEndLemmas.{right_never_accused}
use Rattle.afdx_lawful.proofs.RightExampleLemmas.{right_met}
use Rattle.afdx_lawful.proofs.SentLemmas.{nothing_found_sent}
use Rattle.afdx_lawful.proofs.laws.right_is_never_accused.Goals as goal

pub returns : goal.returns
returns c = record { never = right_never_accused; sent = nothing_found_sent; met = right_met }
