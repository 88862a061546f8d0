use Rattle.afdx_police.proofs.VerdictLemmas.{accepted_own-offers}
use Rattle.afdx_police.proofs.laws.arrivals_are_offers.Goals as goal

pub returns : goal.returns
returns c = accepted_own-offers
