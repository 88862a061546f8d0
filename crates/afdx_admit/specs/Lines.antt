-- The lines of admission in their order, each with the fault that is answered where it is false.
-- Bounds are in ns and buffers in bytes, rounded up.
use Rattle.std.specs.Prelude.{ℕ, ◌-◌, ◌*◌, Bool, ◌||◌, nat_le, nat_lt, List, []}
use Rattle.std.specs.Prelude.{◌∷◌, ◌++◌, length, map, Option, Some, None, slice_get, option_map}
use Rattle.std.specs.Prelude.{option_and_then, if◌then◌else◌}
use Rattle.std.specs.Int.{div_ceil}
use Rattle.std.specs.Option.{option_map_or, unwrap_or}
use Rattle.afdx_frame.specs.declared.link.Priority.TheVariants.{High, Low}
use Rattle.afdx_frame.specs.Regulation.{byte_units}
use Rattle.afdx_config.specs.Rows.{SystemRow, LinkRow, Rows}
use Rattle.afdx_config.specs.Reading.{system_at_port}
use Rattle.afdx_frame.specs.Flows.{Flow, of_class, burst, load, high_wait, low_wait, high_load}
use Rattle.afdx_frame.specs.Ports.{last_port}
use Rattle.afdx_frame.specs.Lines as asked
pub use Rattle.afdx_frame.specs.Lines.{line}
unfoldable pub use Rattle.afdx_frame.specs.Lines.{first_false, false_lines, each_from}
use Rattle.afdx_config.specs.Admission.{byte_ns, links_from, flows_to, sender_jitter}
use Rattle.afdx_config.specs.Admission.{greatest_jitter}
use Rattle.afdx_admit.specs.declared.fault.AdmitFault.{AdmitFault}
use Rattle.afdx_admit.specs.declared.fault.AdmitFault.TheVariants.{Overload, Buffer, HighLatency}
use Rattle.afdx_admit.specs.declared.fault.AdmitFault.TheVariants.{LowLatency, SenderJitter}
use Rattle.afdx_admit.specs.declared.fault.AdmitFault.TheVariants.{LinkJitter, Skew}

-- a line of admission
abbrev pub Line : Type 0
Line = asked.Line AdmitFault

-- ---- the bounds of an output port

-- an output port with what loads it: the ns of a byte on its line, and what sends to it
pub record LoadedOutput : Type 0 where
  pub byte_ns : ℕ
  pub flows : List Flow

-- the longest that a high frame takes; a low one, where the high ones leave it some of the line;
-- the bytes that wait
unfoldable pub high_bound_of : LoadedOutput → ℕ
high_bound_of o = div_ceil (high_wait o.byte_ns o.flows) byte_units

unfoldable pub low_bound_of : LoadedOutput → Option ℕ
low_bound_of o =
    if nat_lt (high_load o.byte_ns o.flows) byte_units
    then Some (div_ceil (low_wait o.byte_ns o.flows) (byte_units - high_load o.byte_ns o.flows))
    else None

-- the low one as a fault tells it: 0 where the high ones leave nothing
abbrev pub told_low_bound_of : LoadedOutput → ℕ
told_low_bound_of o = unwrap_or (low_bound_of o) 0

unfoldable pub buffer_need_of : LoadedOutput → ℕ
buffer_need_of o = div_ceil (burst o.flows) byte_units

-- the output port to the system at a place, and the one at a port of the switch, if a system is
-- there
abbrev pub loaded_output_to : Rows → ℕ → SystemRow → LoadedOutput
loaded_output_to t place s = record { byte_ns = byte_ns s; flows = flows_to t.links place }

unfoldable pub loaded_output_at : Rows → ℕ → Option LoadedOutput
loaded_output_at t port =
    option_and_then (λ place. option_map (loaded_output_to t place) (slice_get t.systems place))
    (system_at_port t.systems port)

-- the bounds at a port of the switch
abbrev pub high_bound_at : Rows → ℕ → ℕ
high_bound_at t port = option_map_or high_bound_of (loaded_output_at t port) 0

abbrev pub low_bound_at : Rows → ℕ → Option ℕ
low_bound_at t port = option_map_or low_bound_of (loaded_output_at t port) (Some 0)

abbrev pub buffer_need_at : Rows → ℕ → ℕ
buffer_need_at t port = option_map_or buffer_need_of (loaded_output_at t port) 0

-- ---- the lines of an output port

abbrev pub high_line : ℕ → LoadedOutput → Flow → Line
high_line port o f =
    line (nat_le (high_wait o.byte_ns o.flows) (f.latency * byte_units))
    (HighLatency port (record { 0 = f.vl }) (high_bound_of o))

abbrev pub low_line : ℕ → LoadedOutput → Flow → Line
low_line port o f =
    let left = byte_units - high_load o.byte_ns o.flows in
    line (nat_le (low_wait o.byte_ns o.flows) (f.latency * left))
    (LowLatency port (record { 0 = f.vl }) (told_low_bound_of o))

unfoldable pub output_lines : ℕ → ℕ → LoadedOutput → List Line
output_lines buffer port o =
    line (nat_le (load o.byte_ns o.flows) byte_units) (Overload port)
    ∷ line (nat_le (burst o.flows) (buffer * byte_units)) (Buffer port (buffer_need_of o))
    ∷ (map (high_line port o) (of_class High o.flows)
    ++ map (low_line port o) (of_class Low o.flows))

unfoldable pub port_lines : Rows → ℕ → List Line
port_lines t port = option_map_or (output_lines t.buffer port) (loaded_output_at t port) []

-- ---- the lines of systems and links

-- the jitter at the output of the system at this place, in ns, from the links that it sends here
unfoldable pub jitter_at : Rows → ℕ → ℕ
jitter_at t place =
    option_map_or (λ s. sender_jitter (byte_ns s) (links_from t.links place))
    (slice_get t.systems place) 0

unfoldable pub sender_lines : Rows → ℕ → List Line
sender_lines t place =
    line (nat_le (jitter_at t place) greatest_jitter)
    (SenderJitter (record { 0 = place }) (jitter_at t place)) ∷ []

-- the link's jitter allows for that of its sender, which is so many ns: it is not asked of a link
-- that comes from a neighbour
abbrev pub allows_jitter : Rows → ℕ → LinkRow → Bool
allows_jitter t needed l = nat_le t.own l.from || nat_le needed (1000 * l.jitter_us)

abbrev pub lines_of_link : Rows → LinkRow → List Line
lines_of_link t l =
    line (allows_jitter t (jitter_at t l.from) l)
    (LinkJitter (record { 0 = l.vl }) (jitter_at t l.from))
    ∷ line (nat_le l.latency_us l.skew_us) (Skew (record { 0 = l.vl }))
    ∷ []

unfoldable pub link_lines : Rows → ℕ → List Line
link_lines t place = option_map_or (lines_of_link t) (slice_get t.links place) []

-- ---- all lines

-- ports ascending, then systems and then links in file order; a neighbour's output has no line
unfoldable pub lines : Rows → List Line
lines t =
    each_from (port_lines t) 1 last_port
    ++ (each_from (sender_lines t) 0 t.own
    ++ each_from (link_lines t) 0 (length t.links))
