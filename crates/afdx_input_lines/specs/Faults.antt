-- The faults of lines and of runs.
use Rattle.std.specs.Prelude.{ℕ, ◌≡◌, ⊤, List, Option, Some, None, Result, Ok, Err}
use Rattle.afdx_frame.specs.declared.link.Side.{Side}
use Rattle.afdx_frame.specs.declared.link.Side.TheVariants.{A, B}
use Rattle.afdx_input_lines.specs.declared.role.Role.{Role}
use Rattle.afdx_input_lines.specs.declared.role.Role.TheVariants.{Came, Left}
use Rattle.afdx_input_lines.specs.declared.list_fault.ListFault.{ListFault}
use Rattle.afdx_input_lines.specs.declared.list_fault.ListFault.TheVariants as list
use Rattle.afdx_input_lines.specs.declared.fault.LineFault.{LineFault}
use Rattle.afdx_input_lines.specs.declared.fault.LineFault.TheVariants.{BadLine, TimeTooLarge, TimeBack}
use Rattle.afdx_input_lines.specs.declared.fault.LineFault.TheVariants.{BadPort, BadHex}
use Rattle.afdx_input_lines.specs.declared.fault.LineError.{LineError}
use Rattle.afdx_input_lines.specs.declared.fault.LineError.TheVariants as line
use Rattle.afdx_input_lines.specs.declared.fault.RunFault.{RunFault}
use Rattle.afdx_input_lines.specs.declared.fault.RunFault.TheVariants as run
use Rattle.afdx_input_lines.specs.declared.recording_fault.RecordingFault.{RecordingFault}
use Rattle.afdx_input_lines.specs.declared.one_of_two.OneOfTwo.TheVariants as two
use Rattle.afdx_input_lines.specs.declared.one_of_two.Which.{Which}
use Rattle.afdx_input_lines.specs.declared.one_of_two.Which.TheVariants as which

-- a field of digits that write these bytes, or none, wasn't read
abbrev pub IsBytesError : Option (List ℕ) → LineError → Type 0
IsBytesError bytes (line.Fault fault) = (bytes ≡ None) × (fault ≡ BadHex)
IsBytesError bytes line.Memory = ⊤

-- a line that says this is read up to its digits, and so needs room for bytes
abbrev pub NeedsRoom : {A : Type 0} → Result (Option A) LineFault → Type 0
NeedsRoom (Ok (Some item)) = ⊤
NeedsRoom (Ok None) = ⊥
NeedsRoom (Err fault) = fault ≡ BadHex

-- a line that says this wasn't read: for its fault, or for want of memory
abbrev pub IsErrorOf : {A : Type 0} → Result (Option A) LineFault → LineError → Type 0
IsErrorOf said (line.Fault fault) = said ≡ Err fault
IsErrorOf said line.Memory = NeedsRoom said

-- the fault of a run whose line n has this one
abbrev pub fault_of_line : ℕ → LineFault → RunFault
fault_of_line n BadLine = run.BadLine n
fault_of_line n BadHex = run.BadHex n
fault_of_line n TimeBack = run.TimeBack n
fault_of_line n TimeTooLarge = run.TimeTooLarge n
fault_of_line n BadPort = run.BadPort n

-- the fault of a run whose line n wasn't read
abbrev pub fault_at : ℕ → LineError → RunFault
fault_at n (line.Fault fault) = fault_of_line n fault
fault_at n line.Memory = run.Memory

-- the exit status: 3 for a fault of the list or the recording, 4 for a device or memory
abbrev pub status_of : RunFault → ℕ
status_of run.Read = 4
status_of run.Write = 4
status_of run.Memory = 4
status_of _ = 3

-- the recording of this network, of two that are read at once
abbrev pub of_side : Side → Which
of_side A = which.A
of_side B = which.B

-- the input of this role, of two that are read at once
abbrev pub by_role : Role → Which
by_role Came = which.Came
by_role Left = which.Left

-- the fault of the recording of this network
abbrev pub fault_of_network : Side → RecordingFault → RunFault
fault_of_network side fault = run.Of (two.Recording (of_side side) fault)

-- the fault of the recording of this role
abbrev pub fault_of_role : Role → RecordingFault → RunFault
fault_of_role role fault = run.Of (two.Recording (by_role role) fault)

-- a fault of two recordings, where the first is that of what came in, and the second that of what
-- left; each other one stays
abbrev pub fault_by_role : RunFault → RunFault
fault_by_role (run.Of (two.Recording which.A fault)) = fault_of_role Came fault
fault_by_role (run.Of (two.Recording which.B fault)) = fault_of_role Left fault
fault_by_role fault = fault

-- the fault of the list of this role
abbrev pub in_list : Role → ListFault → RunFault
in_list role fault = run.Of (two.List (by_role role) fault)

-- a fault of a list as that of the list of this role; each other one stays
abbrev pub fault_of_list : Role → RunFault → RunFault
fault_of_list role (run.BadLine n) = in_list role (list.BadLine n)
fault_of_list role (run.BadHex n) = in_list role (list.BadHex n)
fault_of_list role (run.TimeBack n) = in_list role (list.TimeBack n)
fault_of_list role (run.TimeTooLarge n) = in_list role (list.TimeTooLarge n)
fault_of_list role (run.BadPort n) = in_list role (list.BadPort n)
fault_of_list role (run.LineTooLong n) = in_list role (list.LineTooLong n)
fault_of_list role run.TooManyLines = in_list role list.TooManyLines
fault_of_list role fault = fault
