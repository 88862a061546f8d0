use Rattle.afdx_solve.specs.Short.{short_link}
use Rattle.afdx_solve.proofs.ShortLemmas.{first-nowhere, first-next}
use Rattle.afdx_solve.proofs.short.first_short.Goals as goal

pub loop-i-init : goal.loop-i-init
loop-i-init c = first-nowhere (short_link c.args.apart c.args.tables.now)

pub loop-i-preserved : goal.loop-i-preserved
loop-i-preserved c =
    first-next (short_link c.args.apart c.args.tables.now) c.loop-i.i c.loop-i.first c.short_link-here.result _
    c.loop-i.invariant c.short_link-here.ensures c.or-first.ensures
