use Rattle.std.proofs.Common.{ap, subst, ◌∙◌}
use Rattle.afdx_config.specs.Rows.{Rows}
use Rattle.afdx_command_conform.specs.Choices.{Choices, until_or}
use Rattle.afdx_command_conform.specs.Counting.{HasCounted, counted_of}
use Rattle.afdx_command_conform.specs.Standing.{seen_by}
use Rattle.afdx_command_conform.specs.Tapped.{unseen_of}
use Rattle.afdx_command_conform.specs.Totals.{concluded}
use Rattle.afdx_command_conform.specs.declared.totals.Totals.{Totals}
use Rattle.afdx_command_conform.proofs.CountingLemmas.{more-found, totals-are}
use Rattle.afdx_command_conform.proofs.EndLemmas.{all-ended}
use Rattle.afdx_command_conform.proofs.judging.JudgingRun.conclusion_with.Goals as goal

pub returns : goal.returns
returns c k frames dues h =
    let until = until_or k.1.until frames in
    c.conclusion.ensures ∙ ap (λ (n : Totals). concluded n) (totals-are c.args.more k frames dues _
    (c.count.ensures.findings ∙ c.new-totals.ensures.findings
    ∙ more-found _ c.args.more _ _ h.works.findings_are c.saturating_add-findings.ensures)
    (c.count.ensures.left_out ∙ c.new-totals.ensures.left_out ∙ h.works.left_out_are)
    (c.count.ensures.unseen ∙ c.new-totals.ensures.unseen ∙ c.unseen-unseen.ensures
    ∙ ap (λ t. unseen_of t (seen_by c.args.self.now.streams)) h.works.tables_are
    ∙ ap (λ (o : Choices). unseen_of k.0 o.sight) h.works.choices_are)
    (c.count.ensures.exercised ∙ c.new-totals.ensures.exercised
    ∙ ap (λ (o : Choices). o.exercised) h.works.choices_are)
    (subst (λ (t : Rows). HasCounted (counted_of t k.1 until frames) c.count.new.totals)
    h.works.tables_are
    (c.count.ensures.counted k.1 until frames (ap (λ (o : Choices). o.sight) h.works.choices_are)
    (all-ended k c.args.self.now frames dues h)
    c.new-totals.ensures.counted)))
