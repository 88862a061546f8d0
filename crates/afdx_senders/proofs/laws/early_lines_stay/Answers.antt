use Rattle.afdx_senders.proofs.EarlyLemmas.{early_lines_stay as they_stay, told_early}
use Rattle.afdx_senders.proofs.laws.early_lines_stay.Goals as goal

pub returns-clause-stay : goal.returns-clause-stay
returns-clause-stay c = they_stay

pub returns-clause-told : goal.returns-clause-told
returns-clause-told c = told_early
