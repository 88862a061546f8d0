use Rattle.afdx_law_promises.proofs.ExampleLemmas.{premises-met, admission-needed, times-needed}
use Rattle.afdx_law_promises.proofs.laws.premises_are_met.Goals as goal

pub returns-clause-met : goal.returns-clause-met
returns-clause-met c = premises-met c.built_is_computed.ensures

pub returns-clause-needed : goal.returns-clause-needed
returns-clause-needed c = admission-needed c.built_is_computed.ensures

pub returns-clause-times : goal.returns-clause-times
returns-clause-times c = times-needed
