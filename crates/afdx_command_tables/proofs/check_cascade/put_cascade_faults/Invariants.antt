use Rattle.std.proofs.Common.{◌≡◌, ◌++◌, drop}
use Rattle.afdx_text.specs.Texts.{text_bytes}
use Rattle.afdx_command_tables.specs.CascadeText.{cascade_fault_lines}
use Rattle.afdx_command_tables.proofs.check_cascade.put_cascade_faults.Given as goal

abbrev pub invariant-loop-fault : goal.invariant-loop-fault
invariant-loop-fault l = text_bytes l.text ++ cascade_fault_lines l.switches (drop l.fault-index l.faults)
    ≡ text_bytes l.fn.text ++ cascade_fault_lines l.switches l.faults
