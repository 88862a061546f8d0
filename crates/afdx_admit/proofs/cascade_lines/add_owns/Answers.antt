use Rattle.std.proofs.Common.{rules, arith, length, sym, ap, subst, ◌∙◌, ◌++◌}
use Rattle.afdx_frame.specs.Lines.{false_lines}
use Rattle.afdx_frame.proofs.FalseLinesLemmas.{each_from-none, each_from-added}
use Rattle.afdx_admit.specs.Cascade.{own_lines}
use Rattle.afdx_admit.proofs.CascadeLemmas.{owns-of}
use Rattle.afdx_admit.proofs.WalkLemmas.{Stopped, walks_stop_at}
use Rattle.afdx_admit.proofs.cascade_lines.add_owns.Goals as goal

pub loop-k-init : goal.loop-k-init
loop-k-init g c = each_from-none (own_lines c.args.switches.now) 0 (g.C.Found.items c.args.found.now)

pub returns-in_err-add_own-clause-walks : goal.returns-in_err-add_own-clause-walks
returns-in_err-add_own-clause-walks g c =
    let ss = c.args.switches.now in
    let k = c.loop-k.k in
    let found = g.C.Found.items c.loop-k.found in
    let stop = c.in_err-add_own.field-0.0 in
    walks_stop_at g.C.Found.Stops (own_lines ss) 0 k k (length ss) (g.C.Found.items c.args.found.now) found _ stop _
    (search rules) (omega arith) (omega arith) c.loop-k.invariant
    (subst (λ ls. Stopped g.C.Found.Stops found ls stop)
    (sym (owns-of ss k c.tables.result.now c.tables.ensures.tables)) c.in_err-add_own.ensures)

pub loop-k-preserved : goal.loop-k-preserved
loop-k-preserved g c =
    let ss = c.args.switches.now in
    let k = c.loop-k.k in
    let found = g.C.Found.items c.loop-k.found in
    each_from-added (own_lines ss) 0 k k (g.C.Found.items c.args.found.now) found _ (omega arith) c.loop-k.invariant
    (c.in_ok-add_own.ensures
    ∙ ap (λ ls. found ++ false_lines ls) (sym (owns-of ss k c.tables.result.now c.tables.ensures.tables)))
