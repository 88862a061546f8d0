-- What the tables of a network say of its switches.
use Rattle.std.specs.Prelude.{ℕ, Option, Some, None, List, find}
use Rattle.std.specs.Option.{option_map_or}
use Rattle.afdx_frame.specs.Lengths.{least_frame}
use Rattle.afdx_frame.specs.declared.link.Side.{Side}
use Rattle.afdx_config.specs.Reading.{system_at_port}
use Rattle.afdx_config.specs.Rows.{Rows}
use Rattle.afdx_police.specs.Arrival.{Arrival, names}
use Rattle.afdx_port.specs.Schedule.{Entry}
use Rattle.afdx_law_bounds.specs.Outputs.{Row}
unfoldable pub use Rattle.afdx_law_bounds.specs.Tables.{port_of, rule_of, longest_wait_of, goes_to}
unfoldable pub use Rattle.afdx_law_bounds.specs.Tables.{rows_of, byte_ns_at}
pub use Rattle.afdx_law_bounds.specs.Tables.{row_of, output_at}
use Rattle.afdx_law_bounds.specs.TableLaws.{entries_to}
use Rattle.afdx_switch.specs.HeldFrames.{HeldFrame}

-- the buffer of a port in bytes: nothing goes to a port that no system has, so it has the least
unfoldable pub buffer_at : Rows → ℕ → ℕ
buffer_at t port = option_map_or (λ system. t.buffer) (system_at_port t.systems port) least_frame

-- the row of the link that the bytes of a frame name
unfoldable pub row_named : Rows → List ℕ → Option Row
row_named t bytes = find (λ r. names r.rule.vl bytes) (rows_of t)

abbrev pub wait_of : Option Row → Option ℕ
wait_of None = None
wait_of (Some r) = r.longest_wait

-- what the output ports hold of an arrival
unfoldable pub carried : Rows → Arrival → HeldFrame
carried t x = record { tag = x.tag; longest_wait = wait_of (row_named t x.bytes); bytes = x.bytes }

-- the entries of an output port, after these arrivals, the newest first
abbrev pub entries_at : Rows → Side → ℕ → List Arrival → List (Entry HeldFrame)
entries_at t side port arrivals = entries_to (carried t) t side port arrivals
