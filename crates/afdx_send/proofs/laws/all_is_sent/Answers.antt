use Rattle.afdx_send.proofs.CompleteLemmas.{all-is-sent, emissions-are-of-taken}
use Rattle.afdx_send.proofs.laws.all_is_sent.Goals as goal

pub returns-clause-sent : goal.returns-clause-sent
returns-clause-sent c = all-is-sent c.tables_are_served.ensures.senders c.sender_is_bounded.ensures.in_time

pub returns-clause-frames : goal.returns-clause-frames
returns-clause-frames c = emissions-are-of-taken
