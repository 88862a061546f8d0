use Rattle.std.proofs.Common.{sym, ap, ◌∙◌}
use Rattle.afdx_text.specs.Texts.{text_bytes}
use Rattle.afdx_config.specs.Rows.{link_row}
use Rattle.afdx_command_tables.proofs.CheckLemmas.{link_line-next, no_line-next}
use Rattle.afdx_command_tables.proofs.check_tables.put_links.Goals as goal
use Rattle.afdx_command_tables.proofs.check_tables.put_links.Goals.{then-goes_to+in_ok-put_margin, else-goes_to}

pub loop-i-preserved : goal.loop-i-preserved
loop-i-preserved c =
    let t = c.args.tables.now in
    let place = c.args.system.0 in
    let row = link_row c.link-link.result.now in
    let at = c.link-link.ensures.row in
    let old = text_bytes c.args.text.now in
    let before = text_bytes c.loop-i.text in
    elim c.if-goes_to.branch [
      | then-goes_to+in_ok-put_margin w ↦
          ap text_bytes w.text-is
          ∙ link_line-next t c.args.port place c.loop-i.i row at old before c.loop-i.invariant _
          (sym c.goes_to.ensures ∙ w.if-goes_to.true) (w.in_ok-put_margin.ensures t c.requires)
      | else-goes_to w ↦
          ap text_bytes w.text-is
          ∙ no_line-next t c.args.port place c.loop-i.i row at old before c.loop-i.invariant
          (sym c.goes_to.ensures ∙ w.if-goes_to.false)
    ]
