-- Which fault of a run is that of a recording.
use Rattle.std.proofs.Common.{◌≡◌, ap, subst, Ok, Err}
use Rattle.afdx_input_lines.specs.declared.fault.RunFault.{RunFault}
use Rattle.afdx_input_lines.specs.declared.fault.RunFault.TheVariants as run
use Rattle.afdx_input_lines.specs.declared.recording_fault.RecordingFault.{RecordingFault}
use Rattle.afdx_input_sources.specs.OrderedSource.{IsNotRecorded, recorded_in}

pub is-recorded : (fault : RunFault) (why : RecordingFault) → recorded_in fault ≡ Ok why → fault ≡ run.Recording why
is-recorded run.Read why e = absurd (cc)
is-recorded run.Write why e = absurd (cc)
is-recorded run.Memory why e = absurd (cc)
is-recorded run.TooManyLines why e = absurd (cc)
is-recorded (run.LineTooLong m) why e = absurd (cc)
is-recorded (run.BadLine m) why e = absurd (cc)
is-recorded (run.BadHex m) why e = absurd (cc)
is-recorded (run.TimeBack m) why e = absurd (cc)
is-recorded (run.TimeTooLarge m) why e = absurd (cc)
is-recorded (run.BadPort m) why e = absurd (cc)
is-recorded (run.Recording m) why e = let is : m ≡ why = cc in ap run.Recording is
is-recorded (run.Of m) why e = absurd (cc)

pub is-other : (fault other : RunFault) → recorded_in fault ≡ Err other → (fault ≡ other) × IsNotRecorded other
is-other run.Read other e = let is : run.Read ≡ other = cc in (is, subst IsNotRecorded is tt)
is-other run.Write other e = let is : run.Write ≡ other = cc in (is, subst IsNotRecorded is tt)
is-other run.Memory other e = let is : run.Memory ≡ other = cc in (is, subst IsNotRecorded is tt)
is-other run.TooManyLines other e = let is : run.TooManyLines ≡ other = cc in (is, subst IsNotRecorded is tt)
is-other (run.LineTooLong m) other e = let is : (run.LineTooLong m) ≡ other = cc in (is, subst IsNotRecorded is tt)
is-other (run.BadLine m) other e = let is : (run.BadLine m) ≡ other = cc in (is, subst IsNotRecorded is tt)
is-other (run.BadHex m) other e = let is : (run.BadHex m) ≡ other = cc in (is, subst IsNotRecorded is tt)
is-other (run.TimeBack m) other e = let is : (run.TimeBack m) ≡ other = cc in (is, subst IsNotRecorded is tt)
is-other (run.TimeTooLarge m) other e = let is : (run.TimeTooLarge m) ≡ other = cc in (is, subst IsNotRecorded is tt)
is-other (run.BadPort m) other e = let is : (run.BadPort m) ≡ other = cc in (is, subst IsNotRecorded is tt)
is-other (run.Recording m) other e = absurd (cc)
is-other (run.Of m) other e = let is : (run.Of m) ≡ other = cc in (is, subst IsNotRecorded is tt)
