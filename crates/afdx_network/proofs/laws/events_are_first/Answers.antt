use Rattle.afdx_network.proofs.FirstLemmas.{are-first, so-far}
use Rattle.afdx_network.proofs.OrderedLemmas.{begins}
use Rattle.afdx_network.proofs.laws.events_are_first.Goals as goal

pub returns-clause-first : goal.returns-clause-first
returns-clause-first c = λ t n events st. are-first t n events st

pub returns-clause-so_far : goal.returns-clause-so_far
returns-clause-so_far c = λ t n events st at. so-far t events st.follows (are-first t n events st) at

pub returns-clause-begin : goal.returns-clause-begin
returns-clause-begin c = λ t n events st. begins t events (are-first t n events st)
