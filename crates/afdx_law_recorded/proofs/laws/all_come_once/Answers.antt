use Rattle.afdx_law_recorded.proofs.AllOnceLemmas.{all_come_once}
use Rattle.afdx_law_recorded.proofs.laws.all_come_once.Goals as goal

pub returns : goal.returns
returns c = all_come_once
