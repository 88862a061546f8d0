use Rattle.std.proofs.Common.{◌∙◌}
use Rattle.afdx_input_sources.specs.declared.merged.Nth.TheVariants.{First, Second}
use Rattle.afdx_input_sources.specs.MergedSource.{taken_of}
use Rattle.afdx_input_runs.proofs.PairAnswerLemmas.{asked-both, ended-gives, few-of, paired-gives, paired-sound, stopped-failed, stopped-gives}
use Rattle.afdx_input_runs.proofs.PairRunLemmas.{either-false}
use Rattle.afdx_input_runs.proofs.over.TimedPairOrderedReadRecordingReadsNumberLine.reads.Goals as goal

pub returns-clause-gave : goal.returns-clause-gave
returns-clause-gave g c start inputs source past k =
    let both = g.P.Two.both in
    c.agrees.ensures.failed inputs
    ∙ paired-sound g.R.Read.remaining (both start) (both inputs) source k.past k.is_paired

pub returns-clause-ended : goal.returns-clause-ended
returns-clause-ended g c start inputs source past k =
    let was = g.P.Two.both start in
    let is = g.P.Two.both inputs in
    let a = k.is_paired.first in
    let b = k.is_paired.second in (
      c.agrees.ensures.failed inputs ∙ either-false is.a.failed is.b.failed a.ended_so.sound b.ended_so.sound,
      c.agrees.ensures.ended inputs a.ended_so.ended b.ended_so.ended,
      (
        few-of g.R.Read.remaining was.a is.a source.pair.first.source (taken_of First k.past) a,
        few-of g.R.Read.remaining was.b is.b source.pair.second.source (taken_of Second k.past) b,
      ),
    )

pub returns-clause-stopped : goal.returns-clause-stopped
returns-clause-stopped g c start inputs source past fault k =
    let both = g.P.Two.both in
    c.agrees.ensures.failed inputs
    ∙ stopped-failed g.R.Read.remaining (both start) (both inputs) source past fault k

pub returns-clause-gave_asked : goal.returns-clause-gave_asked
returns-clause-gave_asked g c start inputs source past k =
    let both = g.P.Two.both in
    let asked = asked-both g.R.Read.remaining (both start) (both inputs) source
    (paired-gives g.R.Read.remaining (both start) (both inputs) source k.past k.is_paired) in
    c.agrees.ensures.asked start inputs asked.0 asked.1

pub returns-clause-ended_asked : goal.returns-clause-ended_asked
returns-clause-ended_asked g c start inputs source past k =
    let both = g.P.Two.both in
    let asked = asked-both g.R.Read.remaining (both start) (both inputs) source
    (ended-gives g.R.Read.remaining (both start) (both inputs) source past k) in
    c.agrees.ensures.asked start inputs asked.0 asked.1

pub returns-clause-stopped_asked : goal.returns-clause-stopped_asked
returns-clause-stopped_asked g c start inputs source past fault k =
    let both = g.P.Two.both in
    let asked = asked-both g.R.Read.remaining (both start) (both inputs) source
    (stopped-gives g.R.Read.remaining (both start) (both inputs) source past fault k) in
    c.agrees.ensures.asked start inputs asked.0 asked.1
