use Rattle.afdx_conform.proofs.gaps.next_gaps.Goals as goal

pub returns-clause-gaps : goal.returns-clause-gaps
returns-clause-gaps c test xs long h before = record {
  to_name = c.next_gap-to_name.ensures.gap test xs long h before.to_name;
  accepted = c.next_gap-accepted.ensures.gap test xs long h before.accepted;
}
