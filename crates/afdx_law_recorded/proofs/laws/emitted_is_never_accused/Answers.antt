use Rattle.afdx_law_recorded.proofs.EmittedLemmas.{emitted_never_accused, emitted_no_line}
use Rattle.afdx_law_recorded.proofs.laws.emitted_is_never_accused.Goals as goal

pub returns-clause-link : goal.returns-clause-link
returns-clause-link c = emitted_never_accused c.emissions_are_lawful.ensures.lawful

pub returns-clause-all : goal.returns-clause-all
returns-clause-all c = emitted_no_line c.emissions_are_lawful.ensures.lawful
