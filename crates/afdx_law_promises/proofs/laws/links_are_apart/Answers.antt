use Rattle.afdx_law_promises.proofs.PromiseLemmas.{links-apart}
use Rattle.afdx_law_promises.proofs.laws.links_are_apart.Goals as goal

pub returns : goal.returns
returns c = links-apart
