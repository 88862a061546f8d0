use Rattle.afdx_input_runs.proofs.RecordingRunLemmas.{asked-by, gave-sound, ended-sound, stopped-so}
use Rattle.afdx_input_runs.proofs.over.TimedNumbersOrderedReadRecordingReadsNumberLineWatched.reads.Goals as goal

pub returns-clause-gave : goal.returns-clause-gave
returns-clause-gave g c start input source past k =
    (gave-sound g.R.Read.remaining start input source past k).0

pub returns-clause-ended : goal.returns-clause-ended
returns-clause-ended g c start input source past k =
    let h = ended-sound g.R.Read.remaining start input source past k in (h.0, h.1, tt)

pub returns-clause-stopped : goal.returns-clause-stopped
returns-clause-stopped g c start input source past fault k =
    (stopped-so g.R.Read.remaining start input source past fault k).0

pub returns-clause-gave_asked : goal.returns-clause-gave_asked
returns-clause-gave_asked g c start input source past k =
    asked-by g.R.Read.remaining start input source.numbers.source.reader.held
    (gave-sound g.R.Read.remaining start input source past k).1

pub returns-clause-ended_asked : goal.returns-clause-ended_asked
returns-clause-ended_asked g c start input source past k =
    asked-by g.R.Read.remaining start input source.numbers.source.reader.held
    (ended-sound g.R.Read.remaining start input source past k).2

pub returns-clause-stopped_asked : goal.returns-clause-stopped_asked
returns-clause-stopped_asked g c start input source past fault k =
    asked-by g.R.Read.remaining start input source.numbers.source.reader.held
    (stopped-so g.R.Read.remaining start input source past fault k).1
