use Rattle.std.proofs.Common.{arith}
use Rattle.std.proofs.KnownBytes.{Keeps-refl}
use Rattle.afdx_input_lines.specs.Peeking.{left_in}
use Rattle.afdx_input_lines.specs.Watching.{calls_of, device_of}
use Rattle.afdx_input_runs.proofs.LookLemmas.{unread-few}
use Rattle.afdx_input_runs.proofs.arrivals.WatchedPeekedRunInputRecordingOptionsHeading.starts.Goals as goal

pub returns-clause-asked : goal.returns-clause-asked
returns-clause-asked g c settled input fresh =
    let left = left_in g.R.Read.remaining (device_of input) in
    unread-few settled left left (calls_of input) (calls_of input) (Keeps-refl left) (omega arith)
