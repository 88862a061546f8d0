use Rattle.afdx_input_sources.proofs.LawLemmas.{both-are-in-order}
use Rattle.afdx_input_sources.proofs.laws.arrivals_of_both_are_in_order.Goals as goal

pub returns : goal.returns
returns c = both-are-in-order
