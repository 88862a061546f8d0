use Rattle.afdx_input_runs.specs.RecordingRun.{AreCutOffInPair, taken_of_pair}
use Rattle.afdx_input_runs.proofs.ArrivalsLemmas.{none-taken}
use Rattle.afdx_input_runs.proofs.arrivals.BySideWatchedRunInputPairOptionsHeading.takes_none.Goals as goal

pub returns : goal.returns
returns g c kind said options ports both input fresh known =
    none-taken (taken_of_pair options ports both.0 both.1)
    (AreCutOffInPair options ports g.R.Read.remaining both.0 both.1 input)
