-- What is true of a solution: no smaller value does.
use Rattle.std.specs.Prelude.{◌≡◌, ℕ, ◌+◌, ◌*◌, ◌-◌, ◌≤◌, true, false, List, slice_get, Some}
use Rattle.afdx_frame.specs.declared.link.Priority.{Priority}
use Rattle.afdx_frame.specs.declared.link.Priority.TheVariants.{High, Low}
use Rattle.afdx_frame.specs.Lengths.{least_frame}
use Rattle.afdx_frame.specs.Regulation.{byte_units}
use Rattle.afdx_frame.specs.Flows.{Flow, burst, high_wait, low_wait, high_load}
use Rattle.afdx_config.specs.Rows.{SystemRow, LinkRow, Rows, is_to}
use Rattle.afdx_config.specs.Lawful.{IsLawful}
use Rattle.afdx_config.specs.Admission.{IsAdmitted, byte_ns, flows_to, links_from, sender_jitter}
use Rattle.afdx_solve.specs.declared.options.SolveOptions.{SolveOptions}
use Rattle.afdx_solve.specs.Solved.{apart_us, solved}

-- no smaller jitter of a link allows for its sender's
abbrev pub AreLeastJitters : Rows → Type 0
AreLeastJitters t =
    (i : ℕ) (l : LinkRow) (s : SystemRow) →
    slice_get t.links i ≡ Some l →
    slice_get t.systems l.from ≡ Some s →
    (us : ℕ) →
    sender_jitter (byte_ns s) (links_from t.links l.from) ≤ 1000 * us →
    l.jitter_us ≤ us

-- no smaller buffer holds what may wait at each output port
abbrev pub IsLeastBuffer : Rows → Type 0
IsLeastBuffer t =
    (bytes : ℕ) →
    least_frame ≤ bytes →
    ((i : ℕ) (s : SystemRow) →
    slice_get t.systems i ≡ Some s →
    burst (flows_to t.links i) ≤ bytes * byte_units) →
    t.buffer ≤ bytes

-- frames of a class with such a latency, in ns, are in time at an output port
abbrev pub IsInTime : ℕ → List Flow → Priority → ℕ → Type 0
IsInTime ns flows High latency = high_wait ns flows ≤ latency * byte_units
IsInTime ns flows Low latency = low_wait ns flows ≤ latency * (byte_units - high_load ns flows)

-- with no smaller latency is a link in time at each of its ports
abbrev pub AreLeastLatencies : Rows → Type 0
AreLeastLatencies t =
    (i : ℕ) (l : LinkRow) →
    slice_get t.links i ≡ Some l →
    (us : ℕ) →
    1 ≤ us →
    ((place : ℕ) (s : SystemRow) →
    slice_get t.systems place ≡ Some s →
    is_to place l ≡ true →
    IsInTime (byte_ns s) (flows_to t.links place) l.priority (1000 * us)) →
    l.latency_us ≤ us

-- no smaller skew has room for the latency and so many us more
abbrev pub AreLeastSkews : (apart_us : ℕ) → Rows → Type 0
AreLeastSkews apart_us t =
    (i : ℕ) (l : LinkRow) →
    slice_get t.links i ≡ Some l →
    (us : ℕ) →
    l.latency_us + apart_us ≤ us →
    l.skew_us ≤ us

-- of the keys that aren't kept
pub record IsLeast (o : SolveOptions) (t : Rows) : Type 0 where
  pub jitters : o.kept.jitter ≡ false → AreLeastJitters t
  pub buffer : o.kept.buffer ≡ false → IsLeastBuffer t
  pub latencies : o.kept.latency ≡ false → AreLeastLatencies t
  pub skews : o.kept.skew ≡ false → AreLeastSkews (apart_us o) t

abbrev pub EachIsLeast : Type 0
EachIsLeast =
    (o : SolveOptions) (t : Rows) →
    o.raise_only ≡ false →
    IsLawful (solved o t) →
    IsAdmitted (solved o t) →
    IsLeast o (solved o t)
