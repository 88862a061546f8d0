use Rattle.afdx_config.specs.Switches.{system_lines}
use Rattle.afdx_frame.specs.Lines.{first_false, each_from}
use Rattle.afdx_frame.proofs.FirstFalseLemmas.{IsSoFar}
use Rattle.afdx_config.proofs.over_all.systems_fault_at.Given as goal

abbrev pub invariant-loop-i : goal.invariant-loop-i
invariant-loop-i l =
    let t = l.tables in
    IsSoFar (system_lines l.switches l.k) l.i t.own
    (first_false (each_from (system_lines l.switches l.k) 0 t.own))
