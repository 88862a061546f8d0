use Rattle.afdx_input_sources.proofs.LawLemmas.{taken-in-order}
use Rattle.afdx_input_sources.proofs.laws.arrivals_are_taken_in_order.Goals as goal

pub returns : goal.returns
returns c = taken-in-order
