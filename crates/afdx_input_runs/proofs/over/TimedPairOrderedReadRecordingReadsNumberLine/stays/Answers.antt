use Rattle.afdx_input_runs.proofs.over.TimedPairOrderedReadRecordingReadsNumberLine.stays.Goals as goal

pub returns : goal.returns
returns g c a b e = e
