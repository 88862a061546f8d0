use Rattle.std.proofs.Common.{◌≡◌, length, map}
use Rattle.afdx_explain.specs.Forms.{formed_row, formed_among}
use Rattle.afdx_explain.proofs.entry.formed_among.Given as goal

abbrev pub invariant-loop-rows : goal.invariant-loop-rows
invariant-loop-rows l =
    formed_among (map (λ row. formed_row row.0.now row.1.now row.2.now) l.rows) l.line
    ≡ formed_among (map (λ row. formed_row row.0.now row.1.now row.2.now) l.initial.rows) l.line

abbrev pub decreases-loop-rows : goal.decreases-loop-rows
decreases-loop-rows l = length l.rows
