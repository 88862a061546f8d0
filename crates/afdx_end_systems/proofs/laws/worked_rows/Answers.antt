use Rattle.afdx_end_systems.proofs.Examples.{all_worked}
use Rattle.afdx_end_systems.proofs.laws.worked_rows.Goals as goal

pub returns : goal.returns
returns c = all_worked
