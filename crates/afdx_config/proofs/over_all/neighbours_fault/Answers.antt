use Rattle.std.proofs.Common.{length, sym, ◌∙◌, arith}
use Rattle.afdx_config.specs.Switches.{neighbours_lines}
use Rattle.afdx_frame.specs.Lines.{first_false, each_from}
use Rattle.afdx_frame.proofs.FirstFalseLemmas.{so_far-start, so_far-next, so_far-found, so_far-end, none_of}
use Rattle.afdx_config.proofs.over_all.neighbours_fault.Goals as goal

pub loop-k-init : goal.loop-k-init
loop-k-init c =
    let ss = c.args.switches.now in
    so_far-start (neighbours_lines ss) 0 (length ss) (length ss) (omega arith)

pub returns-in-Some : goal.returns-in-Some
returns-in-Some c =
    let ss = c.args.switches.now in
    sym (so_far-found (neighbours_lines ss) c.loop-k.k (length ss)
    (first_false (each_from (neighbours_lines ss) 0 (length ss)))
    c.in-Some.fault c.loop-k.invariant (omega arith) (sym c.in-Some.ensures))

pub loop-k-preserved : goal.loop-k-preserved
loop-k-preserved c =
    let ss = c.args.switches.now in
    so_far-next (neighbours_lines ss) c.loop-k.k (length ss)
    (first_false (each_from (neighbours_lines ss) 0 (length ss)))
    c.loop-k.invariant (sym c.neighbours_fault_at.ensures ∙ none_of c.neighbours_fault_at.result c.in_default.not-Some)

pub returns : goal.returns
returns c =
    let ss = c.args.switches.now in
    sym (so_far-end (neighbours_lines ss) c.loop-k.k (length ss)
    (first_false (each_from (neighbours_lines ss) 0 (length ss)))
    c.loop-k.invariant (omega arith))
