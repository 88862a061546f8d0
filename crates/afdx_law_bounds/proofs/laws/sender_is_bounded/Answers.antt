use Rattle.afdx_law_bounds.proofs.SenderLemmas.{sender-admitted, sender-regulated, sender-never-full, sender-in-time}
use Rattle.afdx_law_bounds.proofs.laws.sender_is_bounded.Goals as goal

pub returns-clause-admitted : goal.returns-clause-admitted
returns-clause-admitted g c = sender-admitted

pub returns-clause-regulated : goal.returns-clause-regulated
returns-clause-regulated g c = sender-regulated c.regular_is_accepted.ensures

pub returns-clause-never_full : goal.returns-clause-never_full
returns-clause-never_full g c = sender-never-full c.accounts_move.ensures c.regular_is_accepted.ensures

pub returns-clause-in_time : goal.returns-clause-in_time
returns-clause-in_time g c = sender-in-time c.accounts_move.ensures c.regular_is_accepted.ensures
