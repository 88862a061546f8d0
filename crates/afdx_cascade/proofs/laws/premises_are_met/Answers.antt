use Rattle.afdx_cascade.proofs.ExampleLemmas.{premises-met}
use Rattle.afdx_cascade.proofs.laws.premises_are_met.Goals as goal

pub returns : goal.returns
returns c = premises-met c.built_is_computed.ensures
