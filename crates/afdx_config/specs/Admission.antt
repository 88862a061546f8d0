-- Admission: what a configuration satisfies in which every frame keeps its link's latency. It has
-- seven lines: four at each output port, one for each system, and two for each link.
use Rattle.std.specs.Prelude.{◌≡◌, ℕ, ◌+◌, ◌*◌, ◌/◌, ◌<◌, ◌≤◌, List, filter, map, nat_eq, slice_get}
use Rattle.std.specs.Prelude.{Some}
use Rattle.afdx_config.specs.Rows.{SystemRow, LinkRow, Rows, is_to}
use Rattle.afdx_frame.specs.Flows.{Flow, sending_time, IsPortAdmitted}
use Rattle.afdx_config.specs.Flows.{flow_of_link, regulation_of_link}

-- the ns of a byte on a system's line, whose rate is in Mbit/s
abbrev pub byte_ns : SystemRow → ℕ
byte_ns s = 8000 / s.rate

-- the links that go to the system at this place, and those that it sends
abbrev pub links_to : List LinkRow → ℕ → List LinkRow
links_to links system = filter (is_to system) links

abbrev pub links_from : List LinkRow → ℕ → List LinkRow
links_from links system = filter (λ l. nat_eq l.from system) links

-- what sends to the output port of the system at this place
abbrev pub flows_to : List LinkRow → ℕ → List Flow
flows_to links system = map flow_of_link (links_to links system)

-- the jitter that each system has of its own, and the greatest that one may have, in ns (ARINC 664
-- Part 7: 40 us and 500 us)
abbrev pub fixed_jitter : ℕ
fixed_jitter = 40000

abbrev pub greatest_jitter : ℕ
greatest_jitter = 500000

-- the jitter at the output of a system that sends these links, in ns: its own, and one frame of
-- each link
abbrev pub sender_jitter : ℕ → List LinkRow → ℕ
sender_jitter ns own = fixed_jitter + sending_time regulation_of_link ns own

-- what a switch and its receivers need of admission, whoever sends to the switch: the four lines of
-- each output port, and that the copies of a frame are no further apart than its link's skew
pub record IsServing (t : Rows) : Type 0 where
  pub ports : (i : ℕ) (s : SystemRow) →
      slice_get t.systems i ≡ Some s →
      IsPortAdmitted (byte_ns s) t.buffer (flows_to t.links i)
  pub skews : (i : ℕ) (l : LinkRow) → slice_get t.links i ≡ Some l → l.latency_us ≤ l.skew_us

-- and what its senders need too: all seven lines
pub record IsAdmitted (t : Rows) : Type 0 where
  -- no overload, buffer, and the latency of high and of low frames
  pub ports : (i : ℕ) (s : SystemRow) →
      slice_get t.systems i ≡ Some s →
      IsPortAdmitted (byte_ns s) t.buffer (flows_to t.links i)
  -- a system's jitter is not more than it may be
  pub senders : (i : ℕ) (s : SystemRow) →
      slice_get t.systems i ≡ Some s →
      i < t.own →
      sender_jitter (byte_ns s) (links_from t.links i) ≤ greatest_jitter
  -- a link's jitter allows for that of the system that sends it
  pub jitters : (i : ℕ) (l : LinkRow) (s : SystemRow) →
      slice_get t.links i ≡ Some l →
      slice_get t.systems l.from ≡ Some s →
      l.from < t.own →
      sender_jitter (byte_ns s) (links_from t.links l.from) ≤ 1000 * l.jitter_us
  -- the copies of a frame are no further apart than the link's skew
  pub skews : (i : ℕ) (l : LinkRow) → slice_get t.links i ≡ Some l → l.latency_us ≤ l.skew_us
