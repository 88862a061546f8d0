use Rattle.std.proofs.Common.{length}
use Rattle.afdx_config.specs.Switches.{start_lines}
use Rattle.afdx_frame.specs.Lines.{first_false, each_from}
use Rattle.afdx_frame.proofs.FirstFalseLemmas.{IsSoFar}
use Rattle.afdx_config.proofs.over_all.starts_fault_at.Given as goal

abbrev pub invariant-loop-i : goal.invariant-loop-i
invariant-loop-i l =
    let t = l.tables in
    IsSoFar (start_lines l.switches l.k) l.i (length t.links)
    (first_false (each_from (start_lines l.switches l.k) 0 (length t.links)))
