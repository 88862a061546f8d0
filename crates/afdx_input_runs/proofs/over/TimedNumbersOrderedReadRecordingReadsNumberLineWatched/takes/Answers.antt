use Rattle.afdx_input_runs.proofs.RecordingRunLemmas.{one-takes}
use Rattle.afdx_input_runs.proofs.over.TimedNumbersOrderedReadRecordingReadsNumberLineWatched.takes.Goals as goal

pub returns : goal.returns
returns g c start input source bytes e set =
    one-takes g.R.Read.remaining start input source set.said set.order bytes e
