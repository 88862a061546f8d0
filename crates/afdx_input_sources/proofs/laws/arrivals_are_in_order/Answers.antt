use Rattle.afdx_input_sources.proofs.LawLemmas.{are-in-order}
use Rattle.afdx_input_sources.proofs.laws.arrivals_are_in_order.Goals as goal

pub returns : goal.returns
returns c = are-in-order
