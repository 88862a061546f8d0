use Rattle.afdx_conform.proofs.QuietLemmas.{behind_one, counts_none, finds_nothing}
use Rattle.afdx_conform.proofs.laws.explained_finds_nothing.Goals as goal

pub returns : goal.returns
returns c = record { nothing = finds_nothing; unsure = behind_one; counted = counts_none }
