use Rattle.std.proofs.Common.{arith, refl, sym, ◌∙◌, true, false}
use Rattle.afdx_command_conform.proofs.TellingLemmas.{counted-next, no-findings}
use Rattle.afdx_command_conform.proofs.telling.findings_in.Goals as goal
use Rattle.afdx_command_conform.proofs.telling.findings_in.Goals.{then-is_finding, else-is_finding}

pub loop-line-init : goal.loop-line-init
loop-line-init c = rw no-findings refl

pub loop-line-preserved : goal.loop-line-preserved
loop-line-preserved c =
    let old = c.loop-line.count in
    elim c.if-is_finding.branch [
      | then-is_finding w ↦
          rw w.count-is (counted-next c.args.lines.now c.loop-line.line-index _ old w.saturating_add-count.result true
          c.loop-line-test.true (sym w.if-is_finding.true ∙ c.is_finding.ensures) c.loop-line.invariant
          w.saturating_add-count.ensures)
      | else-is_finding w ↦
          rw w.count-is (counted-next c.args.lines.now c.loop-line.line-index _ old old false
          c.loop-line-test.true (sym w.if-is_finding.false ∙ c.is_finding.ensures) c.loop-line.invariant
          (let h = c.loop-line.invariant in omega (arith, h)))
    ]
