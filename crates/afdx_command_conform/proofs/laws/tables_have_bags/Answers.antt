use Rattle.afdx_command_conform.proofs.RunLawLemmas.{tables-have-bags}
use Rattle.afdx_command_conform.proofs.laws.tables_have_bags.Goals as goal

pub returns : goal.returns
returns c = tables-have-bags
