use Rattle.std.proofs.Common.{rules, arith, length}
use Rattle.afdx_frame.proofs.FalseLinesLemmas.{each_from-none, each_from-added}
use Rattle.afdx_admit.specs.Cascade.{hops_lines}
use Rattle.afdx_admit.proofs.WalkLemmas.{walks_stop_at}
use Rattle.afdx_admit.proofs.cascade_lines.add_hops.Goals as goal

pub loop-k-init : goal.loop-k-init
loop-k-init g c = each_from-none (hops_lines c.args.switches.now) 0 (g.C.Found.items c.args.found.now)

pub returns-in_err-add_hops_at : goal.returns-in_err-add_hops_at
returns-in_err-add_hops_at g c =
    let ss = c.args.switches.now in
    walks_stop_at g.C.Found.Stops (hops_lines ss) 0 c.loop-k.k c.loop-k.k (length ss)
    (g.C.Found.items c.args.found.now) (g.C.Found.items c.loop-k.found) _ c.in_err-add_hops_at.field-0.0 _
    (search rules) (omega arith) (omega arith) c.loop-k.invariant c.in_err-add_hops_at.ensures

pub loop-k-preserved : goal.loop-k-preserved
loop-k-preserved g c =
    each_from-added (hops_lines c.args.switches.now) 0 c.loop-k.k c.loop-k.k (g.C.Found.items c.args.found.now)
    (g.C.Found.items c.loop-k.found) _ (omega arith) c.loop-k.invariant c.in_ok-add_hops_at.ensures
