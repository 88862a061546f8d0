use Rattle.std.proofs.Common.{◌≡◌, ◌++◌}
use Rattle.afdx_admit.specs.Lines.{false_lines, each_from, link_lines}
use Rattle.afdx_admit.proofs.lines.add_links.Given as goal

abbrev pub invariant-loop-i : goal.invariant-loop-i
invariant-loop-i g l =
    g.C.Found.items l.found
    ≡ g.C.Found.items l.fn.found ++ false_lines (each_from (link_lines l.tables) 0 l.i)
