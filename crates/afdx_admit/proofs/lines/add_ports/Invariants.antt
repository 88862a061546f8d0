use Rattle.std.proofs.Common.{◌≡◌, ◌++◌}
use Rattle.afdx_admit.specs.Lines.{false_lines, each_from, port_lines}
use Rattle.afdx_admit.proofs.lines.add_ports.Given as goal

abbrev pub invariant-loop-place : goal.invariant-loop-place
invariant-loop-place g l =
    g.C.Found.items l.found
    ≡ g.C.Found.items l.fn.found ++ false_lines (each_from (port_lines l.tables) 1 l.place)
