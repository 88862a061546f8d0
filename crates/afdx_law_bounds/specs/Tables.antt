-- The output ports of a switch, and a sender's own, as the tables have them.
use Rattle.std.specs.Prelude.{◌≡◌, ℕ, ◌*◌, ◌<◌, ◌==◌, Bool, false, if◌then◌else◌, Option, Some, None}
use Rattle.std.specs.Prelude.{List, map}
use Rattle.std.specs.Prelude.{slice_get}
use Rattle.std.specs.Option.{option_map_or}
use Rattle.afdx_frame.specs.declared.link.Priority.{Priority}
use Rattle.afdx_frame.specs.declared.link.Side.{Side}
use Rattle.afdx_frame.specs.Flows.{Flow, sending_time}
use Rattle.afdx_frame.specs.Regulation.{regulation_with}
use Rattle.afdx_config.specs.Admission.{IsAdmitted, IsServing, byte_ns, flows_to, links_from}
use Rattle.afdx_config.specs.Flows.{regulation_of_link}
use Rattle.afdx_config.specs.Lawful.{IsLawfulSwitch}
use Rattle.afdx_config.specs.Reading.{system_at_port}
use Rattle.afdx_config.specs.Rows.{SystemRow, LinkRow, Rows, is_to}
use Rattle.afdx_police.specs.Rule.{Rule, rule_with}
use Rattle.afdx_law_bounds.specs.Outputs.{Row, Output, flows_at}
use Rattle.afdx_law_bounds.specs.OutputLaws.{IsServed}
use Rattle.afdx_law_bounds.specs.Sender.{IsSender}

-- the port of the switch of the system at this place
unfoldable pub port_of : Rows → ℕ → ℕ
port_of t system = option_map_or (λ s. s.port) (slice_get t.systems system) 0

-- how a link is filtered and policed: its frames come in at its sender's port
unfoldable pub rule_of : Rows → LinkRow → Rule
rule_of t l = rule_with l.vl (port_of t l.from) l.bag_ms l.lmin l.lmax l.jitter_us l.policing

-- how long a frame of the link may wait for its turn, in ns: its link's latency in profile 2, for
-- ever in profile 1
unfoldable pub longest_wait_of : Rows → LinkRow → Option ℕ
longest_wait_of t l = if t.profile == 2 then Some (1000 * l.latency_us) else None

-- the link goes to the system that has this port
unfoldable pub goes_to : Rows → LinkRow → ℕ → Bool
goes_to t l port = option_map_or (λ system. is_to system l) (system_at_port t.systems port) false

-- an output port is named by its number
abbrev pub row_of : Rows → LinkRow → Row
row_of t l = record {
  rule = rule_of t l;
  priority = l.priority;
  latency = 1000 * l.latency_us;
  longest_wait = longest_wait_of t l;
  goes_to = goes_to t l;
}

unfoldable pub rows_of : Rows → List Row
rows_of t = map (row_of t) t.links

-- the time of a byte in ns on the line of the system at this place; a port that no system has is
-- taken as one of 100 Mbit/s
abbrev pub byte_ns_of : Rows → Option ℕ → ℕ
byte_ns_of t None = 80
byte_ns_of t (Some system) = option_map_or byte_ns (slice_get t.systems system) 80

unfoldable pub byte_ns_at : Rows → ℕ → ℕ
byte_ns_at t port = byte_ns_of t (system_at_port t.systems port)

-- an output port of the switch of a side
abbrev pub output_at : Rows → Side → ℕ → Output
output_at t side port =
    record { side = side; number = port; byte_ns = byte_ns_at t port; buffer = t.buffer }

-- the output port with a system's number has that system's line, and the links that go there are
-- those that go to the system
pub record IsPortOf (t : Rows) (system : ℕ) (s : SystemRow) : Type 0 where
  pub line : byte_ns_at t s.port ≡ byte_ns s
  pub goes : (l : LinkRow) → goes_to t l s.port ≡ is_to system l

abbrev pub PortsAreOfSystems : Type 0
PortsAreOfSystems =
    (t : Rows) (system : ℕ) (s : SystemRow) →
    IsLawfulSwitch t →
    slice_get t.systems system ≡ Some s →
    IsPortOf t system s

-- where the tables are admitted, each system's output port is, with the flows that they say go
-- there
pub record ServesTables (t : Rows) (side : Side) (system : ℕ) (s : SystemRow) : Type 0 where
  pub flows : flows_at s.port (rows_of t) ≡ flows_to t.links system
  pub served : IsServed (rows_of t) (output_at t side s.port)

abbrev pub EachOutputIsServed : Type 0
EachOutputIsServed =
    (t : Rows) (side : Side) (system : ℕ) (s : SystemRow) →
    IsLawfulSwitch t →
    IsServing t →
    slice_get t.systems system ≡ Some s →
    ServesTables t side system s

-- the links that a system sends, in one class, as its own port sees them
abbrev pub sent_flow : ℕ → Priority → List LinkRow → LinkRow → Flow
sent_flow byte_ns class own l = record {
  vl = l.vl;
  link = regulation_with l.bag_ms 0 l.lmax;
  priority = class;
  latency = sending_time regulation_of_link byte_ns own;
}

abbrev pub sent_flows : Rows → Priority → ℕ → SystemRow → List Flow
sent_flows t class system s = map (sent_flow (byte_ns s) class (links_from t.links system))
    (links_from t.links system)

-- where the tables are admitted, they are the links of a sender
abbrev pub EachSystemIsSender : Type 0
EachSystemIsSender =
    (t : Rows) (class : Priority) (system : ℕ) (s : SystemRow) →
    IsLawfulSwitch t →
    IsAdmitted t →
    slice_get t.systems system ≡ Some s →
    system < t.own →
    IsSender (byte_ns s) class (sent_flows t class system s)
