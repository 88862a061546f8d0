use Rattle.std.proofs.Common.{refl}
use Rattle.afdx_input_lines.specs.Watching.{calls_of, device_of}
use Rattle.afdx_input_runs.proofs.RecordingRunLemmas.{unasked}
use Rattle.afdx_input_runs.proofs.arrivals.BySideWatchedRunInputPairOptionsHeading.starts.Goals as goal

pub returns-clause-sound : goal.returns-clause-sound
returns-clause-sound g c input fresh = rw (fresh.a.sound, fresh.b.sound) refl

pub returns-clause-asked : goal.returns-clause-asked
returns-clause-asked g c settled input fresh = (
  unasked (g.R.Read.remaining (device_of input.a)) (calls_of input.a),
  unasked (g.R.Read.remaining (device_of input.b)) (calls_of input.b),
)
