-- The text of a replay: the lines of each event, in the order of the events. A list of events has
-- the latest first.
use Rattle.std.specs.Prelude.{ℕ, ◌+◌, Bool, true, false, Option, Some, None, List, [], ◌∷◌, ◌++◌, length, if◌then◌else◌}
use Rattle.afdx_config.specs.Rows.{Rows}
use Rattle.afdx_police.specs.declared.shape.Reason.{Reason}
use Rattle.afdx_end_systems.specs.Handovers.{HandedOver}
use Rattle.afdx_end_systems.specs.Receptions.{reception_line, is_delivered}
use Rattle.afdx_network.specs.Events.{Event, Came, Left, Admission, Departure}
use Rattle.afdx_replay.specs.policing.Text.{verdict_line}
use Rattle.afdx_command_tables.specs.Counts.{no_counts}
use Rattle.afdx_command_tables.specs.declared.summary.Summary.{Summary}
use Rattle.afdx_replay.specs.declared.replaying.lines.Heard.{Heard}
use Rattle.afdx_replay.specs.declared.replaying.lines.Heard.TheVariants.{Message, Nothing}
pub use Rattle.afdx_text.specs.OutLines.{loss_line, letter_of, departure_line, place_text}

-- the frame of a departure, as its port's system gets it
abbrev pub handed_over : Departure → HandedOver
handed_over d = record {
  side = d.side;
  port = d.port;
  time = d.turn.end;
  line = d.turn.entry.item.tag;
  bytes = d.turn.entry.item.bytes;
}

-- the frames that left, of these events; those that were too old are dropped
abbrev pub frames_left : List Event → List HandedOver
frames_left [] = []
frames_left (Came c ∷ before) = frames_left before
frames_left (Left d ∷ before) =
    if d.turn.too_old then frames_left before else handed_over d ∷ frames_left before

abbrev pub loss_lines : ℕ → (place : List ℕ) → List ℕ → List ℕ
loss_lines n place [] = []
loss_lines n place (port ∷ ports) = loss_line n place port ++ loss_lines n place ports

-- the lines of an arrival at the switch of this name
abbrev pub admission_lines : (name : List ℕ) → Admission → List ℕ
admission_lines name c =
    verdict_line c.arrival.tag (place_text c.arrival.side name) c.reason
    ++ loss_lines c.arrival.tag (place_text c.arrival.side name) c.lost

-- what the port's system makes of it, if it left
abbrev pub heard : Bool → Rows → List HandedOver → HandedOver → List ℕ
heard false t before d = reception_line t before d
heard true t before d = []

-- that is a message
abbrev pub has_message : Heard → Bool
has_message Message = true
has_message Nothing = false

-- the lines of an event at the switch of this name, that comes after these there
abbrev pub lines_at : (name : List ℕ) → Rows → List Event → Event → List ℕ
lines_at name t before (Came c) = admission_lines name c
lines_at name t before (Left d) =
    departure_line d.turn.too_old d.turn.entry.item.tag d.turn.end (place_text d.side name) d.port
    ++ heard d.turn.too_old t (frames_left before) (handed_over d)

-- where each side has one switch, it has no name
abbrev pub lines_after : Rows → List Event → Event → List ℕ
lines_after t before e = lines_at [] t before e

unfoldable pub replay_text : Rows → List Event → List ℕ
replay_text t [] = []
replay_text t (e ∷ before) = replay_text t before ++ lines_after t before e

-- one more arrival is counted, and its lost copies
abbrev pub with_admission : Summary → Option Reason → ℕ → Summary
with_admission s None lost = record s { accepted = s.accepted + 1; lost = s.lost + lost }
with_admission s (Some reason) lost = record s { dropped = s.dropped + 1 }

-- one more departure is counted: whether it was too old, and whether its frame gave a message
abbrev pub with_departure : Summary → Bool → Bool → Summary
with_departure s true message = record s { too_old = s.too_old + 1 }
with_departure s false true =
    record s { departed = s.departed + 1; delivered = s.delivered + 1 }
with_departure s false false = record s { departed = s.departed + 1 }

-- one more event is counted, that comes after these at its switch
abbrev pub with_event : Rows → List Event → Event → Summary → Summary
with_event t before (Came c) s = with_admission s c.reason (length c.lost)
with_event t before (Left d) s =
    with_departure s d.turn.too_old (is_delivered t (frames_left before) (handed_over d))

-- how many events there are of each kind, in no lines
unfoldable pub replay_counts : Rows → List Event → Summary
replay_counts t [] = no_counts
replay_counts t (e ∷ before) = with_event t before e (replay_counts t before)
