use Rattle.afdx_law_bounds.proofs.ExampleLemmas.{pair-admitted, pair-served, three-sent}
use Rattle.afdx_law_bounds.proofs.laws.examples_are_admitted.Goals as goal

pub returns-clause-pair : goal.returns-clause-pair
returns-clause-pair c = pair-admitted

pub returns-clause-sender : goal.returns-clause-sender
returns-clause-sender c = three-sent

pub returns-clause-served : goal.returns-clause-served
returns-clause-served c = pair-served
