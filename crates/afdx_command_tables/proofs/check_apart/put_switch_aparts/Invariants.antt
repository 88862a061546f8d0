use Rattle.std.proofs.Common.{◌≡◌, ◌++◌}
use Rattle.afdx_text.specs.Texts.{text_bytes}
use Rattle.afdx_command_tables.specs.CascadeText.{texts_below, link_aparts}
use Rattle.afdx_command_tables.proofs.check_apart.put_switch_aparts.Given as goal

abbrev pub invariant-loop-i : goal.invariant-loop-i
invariant-loop-i l = text_bytes l.text
    ≡ text_bytes l.fn.text ++ texts_below (link_aparts l.switches l.switch.0) l.i
