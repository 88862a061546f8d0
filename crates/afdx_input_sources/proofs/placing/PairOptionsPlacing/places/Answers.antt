use Rattle.afdx_input_sources.proofs.OpenPortLemmas.{entered-in-pair}
use Rattle.afdx_input_sources.proofs.placing.PairOptionsPlacing.places.Goals as goal

pub returns-clause-there : goal.returns-clause-there
returns-clause-there c ss options placed are placed_are = entered-in-pair ss are options placed placed_are
