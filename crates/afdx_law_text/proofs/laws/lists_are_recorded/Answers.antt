use Rattle.afdx_law_text.proofs.JoinedLemmas.{lists-recorded, told-in-order}
use Rattle.afdx_law_text.proofs.laws.lists_are_recorded.Goals as goal

pub returns-clause-lists : goal.returns-clause-lists
returns-clause-lists c = lists-recorded

pub returns-clause-order : goal.returns-clause-order
returns-clause-order c = told-in-order
