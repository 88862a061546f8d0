use Rattle.afdx_law_bounds.proofs.TableLawLemmas.{nothing-lost, has-slot, slot-has-come}
use Rattle.afdx_law_bounds.proofs.laws.admitted_tables_keep_all.Goals as goal

pub returns-clause-nothing_lost : goal.returns-clause-nothing_lost
returns-clause-nothing_lost g c = nothing-lost c.accounts_move.ensures c.arrivals_are_offers.ensures

pub returns-clause-slot : goal.returns-clause-slot
returns-clause-slot g c = has-slot c.accounts_move.ensures c.arrivals_are_offers.ensures

pub returns-clause-has_come : goal.returns-clause-has_come
returns-clause-has_come g c = slot-has-come c.accounts_move.ensures c.arrivals_are_offers.ensures
