use Rattle.afdx_network.proofs.OrderedLemmas.{are-events, one-order}
use Rattle.afdx_network.proofs.laws.one_order.Goals as goal

pub returns-clause-is : goal.returns-clause-is
returns-clause-is c = λ t arrivals. are-events t arrivals

pub returns-clause-only : goal.returns-clause-only
returns-clause-only c = λ t arrivals events h. one-order t arrivals events h
