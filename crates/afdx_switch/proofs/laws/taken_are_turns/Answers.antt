use Rattle.afdx_switch.proofs.LawLemmas.{taken-turns}
use Rattle.afdx_switch.proofs.laws.taken_are_turns.Goals as goal

pub returns : goal.returns
returns c = taken-turns
