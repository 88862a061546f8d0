use Rattle.afdx_admit.specs.Lines.{loaded_output_to}
use Rattle.afdx_admit.proofs.bounds.bounds_to.Goals as goal

pub returns : goal.returns
returns c =
    let s = c.sums_to-sums.ensures.sums in
    let o = loaded_output_to c.args.tables.now c.args.system.0 s.row in
    record {
      bounds = record {
        row = s.row;
        stands = s.stands;
        high = c.high_bound.ensures o s.sums;
        low = c.low_bound.ensures o s.sums;
        buffer = c.buffer_need.ensures o s.sums;
      };
    }
