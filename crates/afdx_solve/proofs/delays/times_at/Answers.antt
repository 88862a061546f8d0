use Rattle.std.proofs.Common.{length, slice_index, sym, ◌∙◌}
use Rattle.afdx_config.specs.Rows.{link_row}
use Rattle.afdx_solve.proofs.DelayLemmas.{latency_over-some, times-lawful}
use Rattle.afdx_solve.proofs.delays.times_at.Goals as goal

pub returns-clause-lawful : goal.returns-clause-lawful
returns-clause-lawful c = λ l at.
    let row = link_row c.link-link.result.now in
    times-lawful c.args.tables.now.own (length c.args.tables.now.systems) row (record {
      link = c.link-link.ensures.lawful_row;
      sent = λ from. c.link-link.ensures.lawful.sent c.args.index row c.link-link.ensures.row from;
    }) c.args.options c.times_of.result _ l (sym c.link-link.ensures.row ∙ at) c.times_of.ensures
    (latency_over-some (slice_index c.of_class.result.now) row.to)
