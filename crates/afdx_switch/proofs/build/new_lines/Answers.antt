use Rattle.afdx_switch.proofs.NewLemmas.{gathered-push}
use Rattle.afdx_switch.proofs.build.new_lines.Goals as goal

pub loop-place-preserved : goal.loop-place-preserved
loop-place-preserved c =
    rw c.in_ok-push.ensures.items (gathered-push _ c.loop-place.place c.loop-place.lines.items
    c.line.result c.loop-place.invariant c.line.ensures)

pub returns-clause-each : goal.returns-clause-each
returns-clause-each c i l line at_l at_line = c.loop-place.invariant.each i line at_line l at_l
