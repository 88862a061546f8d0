use Rattle.std.proofs.Common.{rules, ◌+◌, arith}
use Rattle.afdx_admit.specs.Lines.{port_lines}
use Rattle.afdx_frame.proofs.FalseLinesLemmas.{each_from-none, each_from-added}
use Rattle.afdx_admit.proofs.WalkLemmas.{walks_stop_at}
use Rattle.afdx_admit.proofs.lines.add_ports.Goals as goal

pub loop-place-init : goal.loop-place-init
loop-place-init g c = each_from-none (port_lines c.args.tables.now) 1 (g.C.Found.items c.args.found.now)

pub returns-in_err-add_port : goal.returns-in_err-add_port
returns-in_err-add_port g c =
    walks_stop_at g.C.Found.Stops (port_lines c.args.tables.now) 1 c.loop-place.place (c.loop-place.place + 1) 24
    (g.C.Found.items c.args.found.now) (g.C.Found.items c.loop-place.found) _ c.in_err-add_port.field-0.0 _
    (search rules) (omega arith) (omega arith) c.loop-place.invariant
    (rw c.port_at.ensures at c.in_err-add_port.ensures)

pub loop-place-preserved : goal.loop-place-preserved
loop-place-preserved g c =
    each_from-added (port_lines c.args.tables.now) 1 c.loop-place.place (c.loop-place.place + 1)
    (g.C.Found.items c.args.found.now) (g.C.Found.items c.loop-place.found) _ (omega arith) c.loop-place.invariant
    (rw c.port_at.ensures at c.in_ok-add_port.ensures)
