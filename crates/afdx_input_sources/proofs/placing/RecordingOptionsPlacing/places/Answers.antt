use Rattle.afdx_input_sources.proofs.OpenPortLemmas.{entered-at}
use Rattle.afdx_input_sources.proofs.placing.RecordingOptionsPlacing.places.Goals as goal

pub returns-clause-there : goal.returns-clause-there
returns-clause-there c ss options placed are placed_are = entered-at ss are options placed placed_are
