use Rattle.std.proofs.Common.{◌≡◌, ◌++◌, take}
use Rattle.std.specs.List.{flat_map}
use Rattle.afdx_text.specs.Texts.{text_bytes}
use Rattle.afdx_config.specs.Admission.{links_to}
use Rattle.afdx_command_tables.specs.CheckText.{link_line}
use Rattle.afdx_command_tables.proofs.check_tables.put_links.Given as goal

abbrev pub invariant-loop-i : goal.invariant-loop-i
invariant-loop-i l = text_bytes l.text
    ≡ text_bytes l.fn.text ++ flat_map (link_line l.tables l.port) (links_to (take l.i l.tables.links) l.system.0)
