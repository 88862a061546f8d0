use Rattle.afdx_config.proofs.LookUpLemmas.{each_row-found}
use Rattle.afdx_config.proofs.laws.each_row_is_found.Goals as goal

pub returns : goal.returns
returns c = λ t lawful. each_row-found t lawful
