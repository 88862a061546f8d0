use Rattle.afdx_law_bounds.proofs.OutputLemmas.{arrivals-in-time, arrivals-not-old, arrivals-left}
use Rattle.afdx_law_bounds.proofs.laws.arrivals_are_in_time.Goals as goal

pub returns-clause-within : goal.returns-clause-within
returns-clause-within g c = arrivals-in-time c.accounts_move.ensures c.arrivals_are_offers.ensures

pub returns-clause-not_old : goal.returns-clause-not_old
returns-clause-not_old g c = arrivals-not-old c.accounts_move.ensures c.arrivals_are_offers.ensures

pub returns-clause-left : goal.returns-clause-left
returns-clause-left g c = arrivals-left c.accounts_move.ensures c.arrivals_are_offers.ensures
