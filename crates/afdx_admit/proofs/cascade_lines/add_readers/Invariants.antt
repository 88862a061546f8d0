use Rattle.std.proofs.Common.{◌≡◌, ◌++◌}
use Rattle.afdx_frame.specs.Lines.{false_lines, each_from}
use Rattle.afdx_admit.specs.Cascade.{readers_lines}
use Rattle.afdx_admit.proofs.cascade_lines.add_readers.Given as goal

abbrev pub invariant-loop-k : goal.invariant-loop-k
invariant-loop-k g l =
    g.C.Found.items l.found
    ≡ g.C.Found.items l.fn.found ++ false_lines (each_from (readers_lines l.switches) 0 l.k)
