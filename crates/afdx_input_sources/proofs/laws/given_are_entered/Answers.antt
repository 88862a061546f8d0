use Rattle.afdx_input_sources.proofs.EnteringLemmas.{given-entered}
use Rattle.afdx_input_sources.proofs.laws.given_are_entered.Goals as goal

pub returns : goal.returns
returns g c = given-entered g.R.Read.remaining
