use Rattle.std.proofs.Common.{◌≡◌, ◌++◌, drop}
use Rattle.afdx_text.specs.Texts.{text_bytes}
use Rattle.afdx_command_tables.specs.CheckText.{fault_lines}
use Rattle.afdx_command_tables.proofs.check_tables.put_faults.Given as goal

abbrev pub invariant-loop-fault : goal.invariant-loop-fault
invariant-loop-fault l = text_bytes l.text ++ fault_lines l.tables (drop l.fault-index l.faults)
    ≡ text_bytes l.fn.text ++ fault_lines l.tables l.faults
