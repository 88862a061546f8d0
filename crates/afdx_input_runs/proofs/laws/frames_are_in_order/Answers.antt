use Rattle.afdx_input_runs.proofs.JoinLawLemmas.{in-order}
use Rattle.afdx_input_runs.proofs.laws.frames_are_in_order.Goals as goal

pub returns : goal.returns
returns c = in-order
