use Rattle.std.proofs.Common.{subst, sym}
use Rattle.afdx_solve.specs.Raising.{IsRising}
use Rattle.afdx_solve.proofs.BeginLemmas.{begun-rising}
use Rattle.afdx_solve.proofs.CascadeLeastLemmas.{settled-least}
use Rattle.afdx_solve.proofs.solving_cascade.set_least.Goals as goal

pub returns-clause-least : goal.returns-clause-least
returns-clause-least c =
    let file = c.args.switches.now in
    settled-least c.args.options file c.settle.new.switches
    (c.settle.ensures.rising file (subst (IsRising c.args.options file) (sym c.begin.ensures.begun)
    (begun-rising c.args.options file c.begin.ensures.switches)))
    c.settle.ensures.settled
