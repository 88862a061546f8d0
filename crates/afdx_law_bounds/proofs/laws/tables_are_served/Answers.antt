use Rattle.afdx_law_bounds.proofs.TableLemmas.{output-served, system-sender}
use Rattle.afdx_law_bounds.proofs.laws.tables_are_served.Goals as goal

pub returns-clause-outputs : goal.returns-clause-outputs
returns-clause-outputs c = λ t side system s lawful serving at. output-served t side system s lawful serving at

pub returns-clause-senders : goal.returns-clause-senders
returns-clause-senders c = system-sender
