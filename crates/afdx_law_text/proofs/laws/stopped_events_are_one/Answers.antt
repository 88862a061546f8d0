use Rattle.afdx_law_text.proofs.OneRunLemmas.{events-so-far-are-one, events-so-far-begin, stopped-sends-are-one}
use Rattle.afdx_law_text.proofs.laws.stopped_events_are_one.Goals as goal

pub returns-clause-events : goal.returns-clause-events
returns-clause-events c = events-so-far-are-one

pub returns-clause-begin : goal.returns-clause-begin
returns-clause-begin c = events-so-far-begin

pub returns-clause-texts : goal.returns-clause-texts
returns-clause-texts c = stopped-sends-are-one
