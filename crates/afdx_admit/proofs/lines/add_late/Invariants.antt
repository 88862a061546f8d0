use Rattle.std.proofs.Common.{◌≡◌, ◌++◌, drop, map}
use Rattle.afdx_admit.specs.Late.{late_fault}
use Rattle.afdx_admit.specs.Lines.{false_lines}
use Rattle.afdx_admit.proofs.FalseLinesLemmas.{row_line}
use Rattle.afdx_admit.proofs.lines.add_late.Given as goal

abbrev pub invariant-loop-i : goal.invariant-loop-i
invariant-loop-i g l =
    let row = row_line l.system.0 l.kept.class l.kept.wait l.kept.left
    (late_fault l.kept.class l.kept.port l.kept.bound) in
    g.C.Found.items l.found ++ false_lines (map row (drop l.i l.tables.links))
    ≡ g.C.Found.items l.fn.found ++ false_lines (map row l.tables.links)
