use Rattle.std.proofs.Common.{◌≡◌}
use Rattle.std.specs.Prelude.{Some, slice_get}
use Rattle.afdx_config.specs.Rows.{LinkRow}
use Rattle.afdx_switch.specs.New.{IsNewLine}
use Rattle.afdx_switch.specs.Tables.{row_of}
use Rattle.afdx_switch.proofs.NewLemmas.{Gathered}
use Rattle.afdx_switch.proofs.build.new_lines.Given as goal

abbrev pub invariant-loop-place : goal.invariant-loop-place
invariant-loop-place l =
    Gathered (λ i line. (r : LinkRow) → slice_get l.tables.links i ≡ Some r
    → IsNewLine (row_of l.tables r) line) l.place l.lines.items
