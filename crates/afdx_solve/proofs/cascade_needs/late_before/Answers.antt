use Rattle.afdx_config.specs.Rows.{link_row}
use Rattle.afdx_admit.specs.Cascade.{row_at}
use Rattle.afdx_admit.proofs.CascadeLemmas.{row_can_send}
use Rattle.afdx_solve.proofs.cascade_needs.late_before.Goals as goal

pub late_behind-requires : goal.late_behind-requires
late_behind-requires c =
    row_can_send c.args.switches.now (row_at c.in-Some.field-0-0.0 (link_row c.in-Some.before.now))
    c.in-Some.ensures.stands
