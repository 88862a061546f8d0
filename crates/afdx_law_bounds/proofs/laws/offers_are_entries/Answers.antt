use Rattle.afdx_law_bounds.proofs.NextLemmas.{offers-entries}
use Rattle.afdx_law_bounds.proofs.laws.offers_are_entries.Goals as goal

pub returns : goal.returns
returns g c = offers-entries c.accounts_move.ensures
