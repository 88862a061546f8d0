-- What a run sees of the links of a switch: by what their frames are judged, and where they were
-- recorded.
use Rattle.std.specs.Prelude.{◌≡◌, ℕ, ◌*◌, Bool, IsTrue, Some, slice_get}
use Rattle.afdx_law_bounds.specs.Tables.{byte_ns_at, port_of, rule_of}
use Rattle.afdx_config.specs.Rows.{LinkRow, Rows}
use Rattle.afdx_config.specs.Lawful.{IsLawfulSwitch}
use Rattle.afdx_frame.specs.Regulation.{is_bag}
use Rattle.afdx_frame.specs.declared.link.Side.{Side}
use Rattle.afdx_input_lines.specs.declared.role.Role.TheVariants.{Came, Left}
use Rattle.afdx_input_sources.specs.Tapping.{Taps, taps_in}
use Rattle.afdx_input_sources.specs.declared.taps.Taps as code
use Rattle.afdx_police.specs.Rule.{Rule}

-- Of a link: the rule by which it is policed; how long its frames may take to a port, and how long
-- a byte of them lasts on the way there, in ns; and whether the port at which it comes in was
-- recorded on a side. Of a side and a port, whether what left there was.
pub record Sight : Type 0 where
  pub rule : LinkRow → Rule
  pub latency_ns : LinkRow → (port : ℕ) → ℕ
  pub byte_ns : LinkRow → (port : ℕ) → ℕ
  pub is_heard : Side → LinkRow → Bool
  pub is_seen : Side → (port : ℕ) → Bool

-- that of one switch between taps at its ports, by its tables
abbrev pub of_tables : Rows → Taps → Sight
of_tables t taps = record {
  rule = rule_of t;
  latency_ns = λ l port. 1000 * l.latency_us;
  byte_ns = λ l port. byte_ns_at t port;
  is_heard = λ side l. taps Came side (port_of t l.from);
  is_seen = taps Left;
}

-- as the code holds it
abbrev pub sight_in : Rows → code.Taps → Sight
sight_in t taps = of_tables t (taps_in taps)

-- the rule of each link has one of the BAGs that there are
abbrev pub HasBags : Rows → Sight → Type 0
HasBags t o = (place : ℕ) (l : LinkRow) → slice_get t.links place ≡ Some l →
    IsTrue (is_bag (o.rule l).bag_ms)

-- so it is by tables
abbrev pub TablesHaveBags : Type 0
TablesHaveBags = (t : Rows) (taps : Taps) → IsLawfulSwitch t → HasBags t (of_tables t taps)
