use Rattle.afdx_input_lines.specs.Watching.{device_of, has_failed}
use Rattle.afdx_input_files.specs.Reading.{recorded}
use Rattle.afdx_input_sources.specs.PairOptions.{options_of_a, options_of_b}
use Rattle.afdx_input_sources.proofs.LawLemmas.{both-in-order, cut-in-order}
use Rattle.afdx_input_runs.specs.RecordingRun.{AreCutOffInPair, taken_of_pair}
use Rattle.afdx_input_runs.proofs.ArrivalsLemmas.{lines-ordered}
use Rattle.afdx_input_runs.proofs.numbers.BySideWatchedRunInputPairOptionsNumberLine.orders.Goals as goal

pub returns : goal.returns
returns g c options ports both rest past answer h =
    let remaining = g.R.Read.remaining in
    let of_a = options_of_a options in
    let of_b = options_of_b options in
    lines-ordered (taken_of_pair options ports both.0 both.1)
    (AreCutOffInPair options ports remaining both.0 both.1 rest)
    (both-in-order of_a of_b ports options.origin (recorded both.0) (recorded both.1))
    (λ lines c. cut-in-order of_a of_b ports options.origin (has_failed rest.a) (has_failed rest.b) both.0 both.1
    (remaining (device_of rest.a)) (remaining (device_of rest.b)) lines c)
    past answer h
