use Rattle.afdx_text.specs.Texts.{text_bytes}
use Rattle.std.proofs.Common.{◌≡◌, ◌++◌}
use Rattle.afdx_command_tables.specs.CheckText.{used_port_lines}
use Rattle.afdx_command_tables.proofs.check_tables.put_ports.Given as goal

abbrev pub invariant-loop-count : goal.invariant-loop-count
invariant-loop-count l = text_bytes l.text ≡ text_bytes l.fn.text ++ used_port_lines l.margins l.tables l.count
