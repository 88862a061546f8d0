use Rattle.std.proofs.Common.{length, sym, subst, arith}
use Rattle.std.specs.Prelude.{IfSome}
use Rattle.afdx_solve.specs.Short.{short_switch}
use Rattle.afdx_solve.proofs.ShortLemmas.{first-nowhere, first-next, known-first, IsKnown}
use Rattle.afdx_solve.proofs.short.first_short_at.Goals as goal

pub loop-k-init : goal.loop-k-init
loop-k-init c = first-nowhere (short_switch c.args.apart c.args.switches.now)

pub loop-k-preserved : goal.loop-k-preserved
loop-k-preserved c =
    first-next (short_switch c.args.apart c.args.switches.now) c.loop-k.k c.loop-k.first c.short_switch-here.result _
    c.loop-k.invariant c.short_switch-here.ensures c.or-first.ensures

pub returns-clause-known : goal.returns-clause-known
returns-clause-known c =
    let ss = c.args.switches.now in
    subst (λ o. IfSome o (IsKnown c.args.apart ss)) (sym c.loop-k.invariant) (known-first c.args.apart ss c.loop-k.k)
