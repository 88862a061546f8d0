use Rattle.afdx_config.specs.Rows.{link_row}
use Rattle.afdx_text.specs.Texts.{text_bytes}
use Rattle.afdx_command_tables.specs.CascadeText.{end_line}
use Rattle.afdx_command_tables.proofs.BelowLemmas.{below-none, below-next}
use Rattle.afdx_command_tables.proofs.check_cascade.put_ends_of_row.Goals as goal

pub loop-place-init : goal.loop-place-init
loop-place-init c =
    below-none (end_line c.args.tables.now (link_row c.args.link.now) c.args.ns) (text_bytes c.args.text.now)

pub loop-place-preserved : goal.loop-place-preserved
loop-place-preserved c =
    below-next (end_line c.args.tables.now (link_row c.args.link.now) c.args.ns) c.loop-place.place
    (text_bytes c.args.text.now) (text_bytes c.loop-place.text) _
    c.loop-place.invariant c.in_ok-put_end.ensures
