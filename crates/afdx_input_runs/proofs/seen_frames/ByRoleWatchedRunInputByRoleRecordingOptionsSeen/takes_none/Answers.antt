use Rattle.afdx_input_runs.specs.SeenRun.{AreCutOffByRole, taken_by_role}
use Rattle.afdx_input_runs.proofs.SeenTookLemmas.{none-seen}
use Rattle.afdx_input_runs.proofs.seen_frames.ByRoleWatchedRunInputByRoleRecordingOptionsSeen.takes_none.Goals as goal

pub returns : goal.returns
returns g c kind said options ports both input fresh known =
    none-seen (taken_by_role options ports both.0 both.1)
    (AreCutOffByRole options ports g.R.Read.remaining both.0 both.1 input)
