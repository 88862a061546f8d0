use Rattle.afdx_conform.proofs.StateLemmas.{states_explain}
use Rattle.afdx_conform.proofs.laws.states_are_explanations.Goals as goal

pub returns : goal.returns
returns c = states_explain
