use Rattle.afdx_input_runs.proofs.PairAnswerLemmas.{both-a, both-b, two-take}
use Rattle.afdx_input_runs.proofs.over.TimedPairOrderedReadRecordingReadsNumberLine.takes.Goals as goal

pub returns : goal.returns
returns g c start inputs source bytes e set =
    let both = g.P.Two.both in
    let a = g.R.Read.remaining (both start).a.inner in
    let b = g.R.Read.remaining (both start).b.inner in
    two-take g.R.Read.remaining (both start) (both inputs) source set.order_a set.order_b bytes.0 bytes.1
    (both-a a b bytes e) (both-b a b bytes e)
