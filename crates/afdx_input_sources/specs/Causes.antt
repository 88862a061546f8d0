-- Why a run ends with a fault.
use Rattle.afdx_input_lines.specs.declared.fault.RunFault.{RunFault}
use Rattle.afdx_input_lines.specs.declared.fault.RunFault.TheVariants as run

-- a read failed, a write did, there was no memory; or what the input says can't be taken
pub data Cause : Type 0 where
  FailedRead : Cause
  FailedWrite : Cause
  NoMemory : Cause
  BadInput : Cause

abbrev pub cause_of : RunFault → Cause
cause_of run.Read = FailedRead
cause_of run.Write = FailedWrite
cause_of run.Memory = NoMemory
cause_of _ = BadInput
