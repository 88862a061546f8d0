use Rattle.std.proofs.Common.{refl, ap, ◌∙◌, arith, min, List}
use Rattle.std.proofs.lemmas.List.{take_all}
use Rattle.afdx_conform.specs.Findings.{Finding, frames_in}
use Rattle.afdx_conform.specs.Growing.{most_found}
use Rattle.afdx_conform.proofs.LoopLemmas.{count-next}
use Rattle.afdx_conform.proofs.deciding.count_all.Goals as goal

pub loop-finding-init : goal.loop-finding-init
unfolding frames_in
loop-finding-init c = refl

pub loop-finding-preserved : goal.loop-finding-preserved
loop-finding-preserved c =
    count-next _ c.args.found.now c.loop-finding.finding-index c.loop-finding.frames c.count_of.result
    c.saturating_add-frames.result c.loop-finding-test.true c.loop-finding.invariant c.count_of.ensures
    c.saturating_add-frames.ensures

pub returns : goal.returns
returns c =
    c.loop-finding.invariant
    ∙ ap (λ (l : List Finding). min (frames_in l) most_found)
    (take_all c.loop-finding.finding-index c.args.found.now (let h = c.loop-finding-test.false in omega (arith, h)))
