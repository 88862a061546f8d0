use Rattle.afdx_admit.proofs.ApartLemmas.{nowhere, over-next}
use Rattle.afdx_admit.proofs.apart.cascade_apart.Goals as goal

pub loop-k-init : goal.loop-k-init
loop-k-init c = nowhere c.args.switches.now c.args.vl.0

pub loop-k-preserved : goal.loop-k-preserved
loop-k-preserved c =
    over-next c.args.switches.now c.args.vl.0 c.loop-k.k c.loop-k.least c.apart_at-here.result _ c.loop-k.invariant
    c.apart_at-here.ensures c.lesser-least.ensures
