use Rattle.afdx_network.proofs.OrderedLemmas.{are-so-far, one-order-so-far}
use Rattle.afdx_network.proofs.laws.one_order_so_far.Goals as goal

pub returns-clause-is : goal.returns-clause-is
returns-clause-is c = λ t arrivals. are-so-far t arrivals

pub returns-clause-only : goal.returns-clause-only
returns-clause-only c = λ t arrivals events h. one-order-so-far t arrivals events h
