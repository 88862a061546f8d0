use Rattle.std.proofs.Common.{◌≡◌, length, map}
use Rattle.afdx_explain.specs.Forms.{formed_row, named_row}
use Rattle.afdx_explain.proofs.entry.named_row.Given as goal

abbrev pub invariant-loop-rows : goal.invariant-loop-rows
invariant-loop-rows l =
    named_row (map (λ row. formed_row row.0.now row.1.now row.2.now) l.rows) l.line
    ≡ named_row (map (λ row. formed_row row.0.now row.1.now row.2.now) l.initial.rows) l.line

abbrev pub decreases-loop-rows : goal.decreases-loop-rows
decreases-loop-rows l = length l.rows
