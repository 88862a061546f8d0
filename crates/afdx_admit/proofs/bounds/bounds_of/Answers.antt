use Rattle.std.proofs.Common.{sym, ap, ◌∙◌, Some}
use Rattle.std.specs.Option.{option_map_or}
use Rattle.afdx_admit.specs.Lines.{high_bound_of, low_bound_of, buffer_need_of}
use Rattle.afdx_admit.proofs.PortLemmas.{loaded_output_at-some}
use Rattle.afdx_admit.proofs.bounds.bounds_of.Goals as goal

pub returns-in-Some-clause-bounds : goal.returns-in-Some-clause-bounds
returns-in-Some-clause-bounds c =
    let b = c.bounds_to-bounds.ensures.bounds in
    let is = loaded_output_at-some c.args.tables.now c.args.port c.in-Some.system.0 b.row
    (sym c.in-Some.ensures.place) b.stands in
    record {
      high = b.high ∙ sym (ap (λ x. option_map_or high_bound_of x 0) is);
      low = b.low ∙ sym (ap (λ x. option_map_or low_bound_of x (Some 0)) is);
      buffer = b.buffer ∙ sym (ap (λ x. option_map_or buffer_need_of x 0) is);
    }
