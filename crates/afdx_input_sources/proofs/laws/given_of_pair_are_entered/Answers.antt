use Rattle.afdx_input_sources.proofs.EnteringLemmas.{given-of-pair-entered}
use Rattle.afdx_input_sources.proofs.laws.given_of_pair_are_entered.Goals as goal

pub returns : goal.returns
returns g c = given-of-pair-entered g.R.Read.remaining
