use Rattle.std.proofs.Common.{◌≡◌, ◌++◌, take}
use Rattle.std.specs.List.{flat_map}
use Rattle.afdx_text.specs.Texts.{text_bytes}
use Rattle.afdx_command_tables.specs.CheckText.{apart_of}
use Rattle.afdx_command_tables.proofs.check_apart.put_aparts.Given as goal

abbrev pub invariant-loop-i : goal.invariant-loop-i
invariant-loop-i l = text_bytes l.text ≡ text_bytes l.fn.text ++ flat_map (apart_of l.tables) (take l.i l.tables.links)
