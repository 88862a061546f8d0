use Rattle.std.proofs.Common.{◌≡◌, ◌++◌}
use Rattle.afdx_frame.specs.Lines.{false_lines, each_from}
use Rattle.afdx_admit.specs.Cascade.{hop_lines}
use Rattle.afdx_admit.proofs.cascade_lines.add_hops_at.Given as goal

abbrev pub invariant-loop-i : goal.invariant-loop-i
invariant-loop-i g l =
    g.C.Found.items l.found
    ≡ g.C.Found.items l.fn.found ++ false_lines (each_from (hop_lines l.switches l.switch.0) 0 l.i)
