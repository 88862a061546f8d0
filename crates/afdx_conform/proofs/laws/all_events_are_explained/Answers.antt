use Rattle.afdx_conform.proofs.WholeLemmas.{all_explained}
use Rattle.afdx_conform.proofs.laws.all_events_are_explained.Goals as goal

pub returns : goal.returns
returns c = all_explained
