use Rattle.std.proofs.Common.{◌≡◌, length, map}
use Rattle.afdx_explain.specs.Forms.{row_among}
use Rattle.afdx_explain.proofs.entry.row_among.Given as goal

abbrev pub invariant-loop-rows : goal.invariant-loop-rows
invariant-loop-rows g l =
    row_among l.forms (map (λ row. (row.1.now, row.2.now)) l.rows) l.line
    ≡ row_among l.forms (map (λ row. (row.1.now, row.2.now)) l.initial.rows) l.line

abbrev pub decreases-loop-rows : goal.decreases-loop-rows
decreases-loop-rows g l = length l.rows
