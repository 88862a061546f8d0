use Rattle.afdx_law_bounds.proofs.OutputLemmas.{entries-regulated, entries-accepted, offers-enter, arrival-kept}
use Rattle.afdx_law_bounds.proofs.laws.arrivals_are_kept.Goals as goal

pub returns-clause-regulated : goal.returns-clause-regulated
returns-clause-regulated g c = entries-regulated c.accounts_move.ensures c.arrivals_are_offers.ensures

pub returns-clause-accepted : goal.returns-clause-accepted
returns-clause-accepted g c = entries-accepted c.accounts_move.ensures c.arrivals_are_offers.ensures

pub returns-clause-enter : goal.returns-clause-enter
returns-clause-enter g c = offers-enter c.accounts_move.ensures c.arrivals_are_offers.ensures

pub returns-clause-kept : goal.returns-clause-kept
returns-clause-kept g c = arrival-kept c.accounts_move.ensures c.arrivals_are_offers.ensures
