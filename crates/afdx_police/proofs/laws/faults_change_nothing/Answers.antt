use Rattle.afdx_police.proofs.VerdictLemmas.{fault_changes_nothing}
use Rattle.afdx_police.proofs.laws.faults_change_nothing.Goals as goal

pub returns : goal.returns
returns c = fault_changes_nothing
