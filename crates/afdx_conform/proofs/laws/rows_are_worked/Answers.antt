use Rattle.afdx_conform.proofs.RowLemmas.{all_worked}
use Rattle.afdx_conform.proofs.laws.rows_are_worked.Goals as goal

pub returns : goal.returns
returns c = all_worked
