-- Why a line isn't put, as a fault of a run.
use Rattle.std.specs.Prelude.{◌≡◌, Bool, true, false, Result, Ok, Err}
use Rattle.afdx_input_lines.specs.declared.fault.RunFault.{RunFault}
use Rattle.afdx_input_lines.specs.declared.fault.RunFault.TheVariants as run
use Rattle.afdx_text.specs.declared.put_fault.SinkFault.{SinkFault}
use Rattle.afdx_text.specs.declared.put_fault.SinkFault.TheVariants.{Write, Memory}

abbrev pub fault_of : SinkFault → RunFault
fault_of Write = run.Write
fault_of Memory = run.Memory

-- the device failed
abbrev pub is_unwritten : {A : Type 0} → Result A SinkFault → Bool
is_unwritten (Ok _) = false
is_unwritten (Err Write) = true
is_unwritten (Err Memory) = false

-- an output is kept by a call: it has failed exactly where the call answers so, and what it works
-- by is what it was
pub record IsKept {S Settings A : Type 0} (has_failed : S → Bool) (settings_of : S → Settings)
    (old new : S) (answer : Result A SinkFault) : Type 0 where
  pub failed : has_failed new ≡ is_unwritten answer
  pub settings : settings_of new ≡ settings_of old
