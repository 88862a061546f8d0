use Rattle.afdx_lawful.proofs.RowLemmas.{all_worked}
use Rattle.afdx_lawful.proofs.laws.rows_are_worked.Goals as goal

pub returns : goal.returns
returns c = all_worked
