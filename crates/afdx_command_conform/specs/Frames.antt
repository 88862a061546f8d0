-- Of the frames of both roles those of a stream, and those of none. Lists of frames have the newest
-- first.
use Rattle.std.specs.Prelude.{ℕ, Bool, not, ◌&&◌, ◌||◌, nat_eq, List, filter, map}
use Rattle.afdx_config.specs.Rows.{Rows, LinkRow}
use Rattle.afdx_frame.specs.declared.link.Side.{Side}
use Rattle.afdx_frame.specs.Sides.{is_side}
use Rattle.afdx_input_lines.specs.declared.role.Role.{Role}
use Rattle.afdx_input_runs.specs.Joining.{Frame}
use Rattle.afdx_police.specs.Arrival.{Arrival, names}
use Rattle.afdx_conform.specs.Streams.{Gone, Terms}
use Rattle.afdx_command_conform.specs.Choices.{Choices, counted}
use Rattle.afdx_command_conform.specs.Sight.{Sight}
use Rattle.afdx_command_conform.specs.Tapped.{goes_there, is_heard_at, is_of_came}
unfoldable pub use Rattle.afdx_command_conform.specs.Tapped.{link_to, place_named}

abbrev pub frame_with : Role → Arrival → Frame
frame_with role x = record { role = role; arrival = x }

-- it came on a side, of a link
unfoldable pub is_arrival_of : ℕ → Side → Frame → Bool
is_arrival_of vl side x =
    is_of_came x.role && is_side x.arrival.side side && names vl x.arrival.bytes

-- it left on a side, at a port
unfoldable pub left_at : Side → ℕ → Frame → Bool
left_at side port x =
    not (is_of_came x.role) && is_side x.arrival.side side && nat_eq x.arrival.port port

abbrev pub gone_of : Arrival → Gone
gone_of x = record { number = x.tag; time = x.time; bytes = x.bytes }

-- what left at a port is of no stream: its bytes name no link that goes there and whose sender's
-- port is recorded on its side
unfoldable pub is_stranger : Rows → Sight → Arrival → Bool
is_stranger t o x =
    not (goes_there t x) || not (is_heard_at t o x.side (place_named t x.bytes))

-- the frames that count: a link's arrivals on a side, what left of it at a port, and what left
-- there that is of no stream
abbrev pub arrivals_of : Rows → Choices → ℕ → Side → List Frame → List Arrival
arrivals_of t c vl side frames =
    map (λ x. x.arrival) (filter (is_arrival_of vl side) (counted t c frames))

abbrev pub frames_of : Rows → Choices → ℕ → Side → ℕ → List Frame → List Gone
frames_of t c vl side port frames = map (λ x. gone_of x.arrival)
    (filter (λ x. left_at side port x && names vl x.arrival.bytes) (counted t c frames))

abbrev pub strangers_of : Rows → Choices → Side → ℕ → List Frame → List Arrival
strangers_of t c side port frames = map (λ x. x.arrival)
    (filter (λ x. left_at side port x && is_stranger t c.sight x.arrival) (counted t c frames))

-- what the stream of a link at a port is judged by
abbrev pub terms_at : Rows → Choices → (until : ℕ) → LinkRow → (port : ℕ) → Terms
terms_at t c until l port = record {
  rule = c.sight.rule l;
  latency_ns = c.sight.latency_ns l port;
  byte_ns = c.sight.byte_ns l port;
  by = c.by;
  until = until;
}
