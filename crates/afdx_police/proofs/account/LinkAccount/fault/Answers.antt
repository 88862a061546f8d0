use Rattle.std.proofs.Common.{sym, ◌∙◌, ap, Some}
use Rattle.afdx_frame.specs.Parts.{bytes_of, parts_of}
use Rattle.afdx_police.specs.Rule.{Rule}
use Rattle.afdx_police.specs.RuleOf.{rule_of}
use Rattle.afdx_police.specs.Shape.{fault_of}
use Rattle.afdx_police.proofs.FrameLemmas.{judged}
use Rattle.afdx_police.proofs.account.LinkAccount.fault.Goals as goal

pub returns-clause-reason : goal.returns-clause-reason
returns-clause-reason c =
    let rule = rule_of c.rule.result.now in
    let parts = parts_of c.args.view.now in
    c.fault_by.ensures.reason
    ∙ rw c.vl.ensures (sym (judged rule c.args.port (bytes_of c.args.frame) parts c.requires.viewed))
    ∙ ap (λ (r : Rule). fault_of (Some r) c.args.port (bytes_of c.args.frame)) c.rule.ensures
