use Rattle.afdx_input_lines.specs.Watching.{calls_of, device_of}
use Rattle.afdx_input_runs.proofs.RecordingRunLemmas.{unasked}
use Rattle.afdx_input_runs.proofs.seen_frames.WatchedRunInputRecordingOptionsSeen.starts.Goals as goal

pub returns-clause-sound : goal.returns-clause-sound
returns-clause-sound g c input fresh = fresh.sound

pub returns-clause-asked : goal.returns-clause-asked
returns-clause-asked g c settled input fresh = unasked (g.R.Read.remaining (device_of input)) (calls_of input)
