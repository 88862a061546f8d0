use Rattle.afdx_switch.proofs.LawLemmas.{verdicts-own}
use Rattle.afdx_switch.proofs.laws.verdicts_are_own.Goals as goal

pub returns : goal.returns
returns c = verdicts-own
