use Rattle.std.proofs.Common.{sym, ◌∙◌, ap, Some, arith}
use Rattle.afdx_frame.specs.Parts.{bytes_of, parts_of}
use Rattle.afdx_police.specs.RuleOf.{rule_of}
use Rattle.afdx_police.proofs.FrameLemmas.{judged, judged_without, frame_is_sealed, no_frame}
use Rattle.afdx_police.proofs.shape.judge_checked.Goals as goal

pub returns-in-Err-clause-reason : goal.returns-in-Err-clause-reason
returns-in-Err-clause-reason c =
    ap Some c.into.ensures
    ∙ sym (no_frame _ c.args.port (bytes_of c.args.frame) c.in-Err.fault c.in-Err.ensures.computed)

pub returns-in-Some-clause-reason : goal.returns-in-Some-clause-reason
returns-in-Some-clause-reason c =
    let rule = rule_of c.in-Some.rule.now in
    let parts = parts_of c.in-Ok.view in
    rw c.in-Some.is (
    c.fault_by.ensures.reason
    ∙ rw c.vl.ensures (sym (judged rule c.args.port (bytes_of c.args.frame) parts c.in-Ok.ensures.computed))
    )

pub returns-in-Some-clause-sealed : goal.returns-in-Some-clause-sealed
returns-in-Some-clause-sealed c =
    let sealed = frame_is_sealed (bytes_of c.args.frame) (parts_of c.in-Ok.view) c.in-Ok.ensures.computed in
    grind (arith, sealed)

pub returns-in-None-clause-reason : goal.returns-in-None-clause-reason
returns-in-None-clause-reason c =
    rw c.in-None.is (sym (judged_without c.args.port (bytes_of c.args.frame) (parts_of c.in-Ok.view)
    c.in-Ok.ensures.computed))
