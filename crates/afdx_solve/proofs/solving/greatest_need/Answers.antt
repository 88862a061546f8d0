use Rattle.std.proofs.Common.{refl, sym, ap, ◌∙◌, max}
use Rattle.afdx_solve.specs.Solved.{greatest_need}
use Rattle.afdx_solve.proofs.DelayLemmas.{greatest_need-more}
use Rattle.afdx_solve.proofs.solving.greatest_need.Goals as goal

pub loop-i-init : goal.loop-i-init
unfolding greatest_need
loop-i-init c = refl

pub loop-i-preserved : goal.loop-i-preserved
loop-i-preserved c =
    let t = c.args.tables.now in
    c.max-greatest.ensures ∙ ap (λ n. max n c.need_to-needed.result) c.loop-i.invariant
    ∙ ap (max (greatest_need t c.loop-i.i)) c.need_to-needed.ensures
    ∙ sym (greatest_need-more t c.loop-i.i)
