use Rattle.std.proofs.Common.{length, ◌-◌}
use Rattle.afdx_config.specs.Switches.{neighbour_lines}
use Rattle.afdx_frame.specs.Lines.{first_false, each_from}
use Rattle.afdx_frame.proofs.FirstFalseLemmas.{IsSoFar}
use Rattle.afdx_config.proofs.over_all.neighbours_fault_at.Given as goal

abbrev pub invariant-loop-i : goal.invariant-loop-i
invariant-loop-i l =
    let t = l.tables in
    IsSoFar (neighbour_lines l.switches l.k) l.i (length t.systems)
    (first_false (each_from (neighbour_lines l.switches l.k) t.own (length t.systems - t.own)))
