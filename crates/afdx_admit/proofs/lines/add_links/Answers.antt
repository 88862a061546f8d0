use Rattle.std.proofs.Common.{rules, arith, length}
use Rattle.afdx_admit.specs.Lines.{link_lines}
use Rattle.afdx_frame.proofs.FalseLinesLemmas.{each_from-none, each_from-added}
use Rattle.afdx_admit.proofs.WalkLemmas.{walks_stop_at}
use Rattle.afdx_admit.proofs.lines.add_links.Goals as goal

pub loop-i-init : goal.loop-i-init
loop-i-init g c = each_from-none (link_lines c.args.tables.now) 0 (g.C.Found.items c.args.found.now)

pub returns-in_err-add_link : goal.returns-in_err-add_link
returns-in_err-add_link g c =
    walks_stop_at g.C.Found.Stops (link_lines c.args.tables.now) 0 c.loop-i.i c.loop-i.i
    (length c.args.tables.now.links) (g.C.Found.items c.args.found.now) (g.C.Found.items c.loop-i.found) _
    c.in_err-add_link.field-0.0 _ (search rules) (omega arith) (omega arith) c.loop-i.invariant
    c.in_err-add_link.ensures

pub loop-i-preserved : goal.loop-i-preserved
loop-i-preserved g c =
    each_from-added (link_lines c.args.tables.now) 0 c.loop-i.i c.loop-i.i (g.C.Found.items c.args.found.now)
    (g.C.Found.items c.loop-i.found) _ (omega arith) c.loop-i.invariant c.in_ok-add_link.ensures
