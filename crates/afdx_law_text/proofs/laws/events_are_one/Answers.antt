use Rattle.afdx_law_text.proofs.OneRunLemmas.{events-are-one, sends-are-one}
use Rattle.afdx_law_text.proofs.laws.events_are_one.Goals as goal

pub returns-clause-events : goal.returns-clause-events
returns-clause-events c = events-are-one

pub returns-clause-texts : goal.returns-clause-texts
returns-clause-texts c = sends-are-one
