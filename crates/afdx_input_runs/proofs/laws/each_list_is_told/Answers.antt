use Rattle.afdx_input_runs.proofs.JoinLawLemmas.{each-list}
use Rattle.afdx_input_runs.proofs.laws.each_list_is_told.Goals as goal

pub returns : goal.returns
returns c = each-list
