-- The links of a class at a port that may be late.
use Rattle.std.specs.Prelude.{ℕ, ◌*◌, Bool, ◌&&◌, nat_le, nat_lt}
use Rattle.afdx_frame.specs.declared.link.Priority.{Priority}
use Rattle.afdx_frame.specs.declared.link.Priority.TheVariants.{High, Low}
use Rattle.afdx_config.specs.Rows.{LinkRow, is_to}
use Rattle.afdx_frame.specs.Flows.{Flow, is_class}
use Rattle.afdx_admit.specs.declared.fault.AdmitFault.{AdmitFault}
use Rattle.afdx_admit.specs.declared.fault.AdmitFault.TheVariants.{HighLatency, LowLatency}
use Rattle.afdx_admit.specs.Lines.{Line, line}

-- a row of the tables goes to a system, has a class, and its latency times `left` is less than
-- `wait`
abbrev pub is_late : ℕ → Priority → ℕ → ℕ → LinkRow → Bool
is_late system class wait left l =
    (is_to system l && is_class class l.priority) && nat_lt (1000 * l.latency_us * left) wait

-- the fault of a link of a class at a port, by its identifier
abbrev pub late_fault : Priority → ℕ → ℕ → ℕ → AdmitFault
late_fault High port bound vl = HighLatency port (record { 0 = vl }) bound
late_fault Low port bound vl = LowLatency port (record { 0 = vl }) bound

-- the line of a flow: its latency times `left` is `wait` or more
abbrev pub class_line : ℕ → ℕ → (ℕ → AdmitFault) → Flow → Line
class_line wait left fault f = line (nat_le wait (f.latency * left)) (fault f.vl)
