use Rattle.afdx_law_bounds.proofs.PortLawLemmas.{put-kept, taken-in-time, taken-not-old, all-taken}
use Rattle.afdx_law_bounds.proofs.laws.ports_are_in_time.Goals as goal

pub returns-clause-kept : goal.returns-clause-kept
returns-clause-kept g c = put-kept c.accounts_move.ensures g.T.HasLength.facts

pub returns-clause-within : goal.returns-clause-within
returns-clause-within g c =
    taken-in-time c.accounts_move.ensures g.T.HasLength.facts c.taken_are_on_schedule.ensures.turns

pub returns-clause-not_old : goal.returns-clause-not_old
returns-clause-not_old g c =
    taken-not-old c.accounts_move.ensures g.T.HasLength.facts c.taken_are_on_schedule.ensures.turns

pub returns-clause-all : goal.returns-clause-all
returns-clause-all g c =
    all-taken c.accounts_move.ensures g.T.HasLength.facts c.taken_are_on_schedule.ensures.turns
    c.due_is_next.ensures.quiet
