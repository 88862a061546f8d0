use Rattle.std.proofs.Common.{◌≡◌, ◌++◌}
use Rattle.afdx_config.specs.Rows.{link_row}
use Rattle.afdx_text.specs.Texts.{text_bytes}
use Rattle.afdx_command_tables.specs.CascadeText.{texts_below, end_line}
use Rattle.afdx_command_tables.proofs.check_cascade.put_ends_of_row.Given as goal

abbrev pub invariant-loop-place : goal.invariant-loop-place
invariant-loop-place l = text_bytes l.text
    ≡ text_bytes l.fn.text ++ texts_below (end_line l.tables (link_row l.link) l.ns) l.place
