use Rattle.afdx_send.proofs.BuildableLemmas.{are-buildable}
use Rattle.afdx_send.proofs.StreamLemmas.{are_in_time, are_lawful}
use Rattle.afdx_send.proofs.laws.emissions_are_lawful.Goals as goal

pub returns-clause-in_time : goal.returns-clause-in_time
returns-clause-in_time c = are_in_time c.taken_are_on_schedule.ensures.turns c.sender_is_bounded.ensures.in_time

pub returns-clause-lawful : goal.returns-clause-lawful
returns-clause-lawful c = are_lawful c.taken_are_on_schedule.ensures.turns c.sender_is_bounded.ensures.in_time

pub returns-clause-buildable : goal.returns-clause-buildable
returns-clause-buildable c = are-buildable c.taken_are_on_schedule.ensures.turns
