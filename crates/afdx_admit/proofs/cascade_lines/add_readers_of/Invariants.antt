use Rattle.std.proofs.Common.{◌≡◌, ◌++◌, drop}
use Rattle.afdx_config.specs.Rows.{link_row}
use Rattle.afdx_config.specs.Switches.{named_rows}
use Rattle.afdx_frame.specs.Lines.{false_lines}
use Rattle.afdx_admit.specs.Cascade.{lines_of_readers}
use Rattle.afdx_admit.proofs.ReadersLemmas.{lines_to}
use Rattle.afdx_admit.proofs.cascade_lines.add_readers_of.Given as goal

abbrev pub invariant-loop-place : goal.invariant-loop-place
invariant-loop-place g l =
    let s = named_rows l.name l.tables in
    let row = link_row l.link in
    g.C.Found.items l.found ++ false_lines (lines_to l.switches l.switch.0 s row (drop l.place-index row.to))
    ≡ g.C.Found.items l.fn.found ++ false_lines (lines_of_readers l.switches l.switch.0 s row)
