-- A fault of a list, as that of one of two.
use Rattle.std.proofs.Common.{◌≡◌, refl, false}
use Rattle.afdx_input_lines.specs.Calls.{is_read}
use Rattle.afdx_input_lines.specs.Faults.{fault_of_list, in_list}
use Rattle.afdx_input_lines.specs.declared.fault.RunFault.{RunFault}
use Rattle.afdx_input_lines.specs.declared.fault.RunFault.TheVariants as run
use Rattle.afdx_input_lines.specs.declared.list_fault.ListFault.{ListFault}
use Rattle.afdx_input_lines.specs.declared.list_fault.ListFault.TheVariants as list
use Rattle.afdx_input_lines.specs.declared.role.Role.{Role}
use Rattle.afdx_input_lines.specs.declared.role.Role.TheVariants.{Came, Left}
use Rattle.afdx_input_sources.specs.Causes.{cause_of, FailedRead, BadInput}

in-list-cause : (role : Role) (fault : ListFault) → cause_of (in_list role fault) ≡ BadInput
in-list-cause Came fault = refl
in-list-cause Left fault = refl

-- a run ends with it for the same cause
pub named-cause : (role : Role) (fault : RunFault) → cause_of (fault_of_list role fault) ≡ cause_of fault
named-cause role (run.BadLine n) = in-list-cause role (list.BadLine n)
named-cause role (run.BadHex n) = in-list-cause role (list.BadHex n)
named-cause role (run.TimeBack n) = in-list-cause role (list.TimeBack n)
named-cause role (run.TimeTooLarge n) = in-list-cause role (list.TimeTooLarge n)
named-cause role (run.BadPort n) = in-list-cause role (list.BadPort n)
named-cause role (run.LineTooLong n) = in-list-cause role (list.LineTooLong n)
named-cause role run.TooManyLines = in-list-cause role list.TooManyLines
named-cause role run.Read = refl
named-cause role run.Write = refl
named-cause role run.Memory = refl
named-cause role (run.Recording f) = refl
named-cause role (run.Of f) = refl

-- the one whose cause is a failed read
pub read-cause : (fault : RunFault) → cause_of fault ≡ FailedRead → fault ≡ run.Read
read-cause run.Read e = refl
read-cause run.Write e = absurd (cc)
read-cause run.Memory e = absurd (cc)
read-cause run.TooManyLines e = absurd (cc)
read-cause (run.BadLine n) e = absurd (cc)
read-cause (run.BadHex n) e = absurd (cc)
read-cause (run.TimeBack n) e = absurd (cc)
read-cause (run.TimeTooLarge n) e = absurd (cc)
read-cause (run.BadPort n) e = absurd (cc)
read-cause (run.LineTooLong n) e = absurd (cc)
read-cause (run.Recording f) e = absurd (cc)
read-cause (run.Of f) e = absurd (cc)

in-list-read : (role : Role) (fault : ListFault) → is_read (in_list role fault) ≡ false
in-list-read Came fault = refl
in-list-read Left fault = refl

-- it is a failed read where it was one
pub named-read : (role : Role) (fault : RunFault) → is_read (fault_of_list role fault) ≡ is_read fault
named-read role (run.BadLine n) = in-list-read role (list.BadLine n)
named-read role (run.BadHex n) = in-list-read role (list.BadHex n)
named-read role (run.TimeBack n) = in-list-read role (list.TimeBack n)
named-read role (run.TimeTooLarge n) = in-list-read role (list.TimeTooLarge n)
named-read role (run.BadPort n) = in-list-read role (list.BadPort n)
named-read role (run.LineTooLong n) = in-list-read role (list.LineTooLong n)
named-read role run.TooManyLines = in-list-read role list.TooManyLines
named-read role run.Read = refl
named-read role run.Write = refl
named-read role run.Memory = refl
named-read role (run.Recording f) = refl
named-read role (run.Of f) = refl
