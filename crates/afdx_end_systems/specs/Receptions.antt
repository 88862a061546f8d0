-- What the systems make of the frames that are handed over to them, and the lines that tell it: `M`
-- for a message that a communication port took and that was read there, `X` for a frame that the
-- receiver dropped.
use Rattle.std.specs.Prelude.{ℕ, ◌+◌, Bool, true, false, Option, Some, None, List, [], ◌∷◌, ◌++◌, slice_get, if◌then◌else◌}
use Rattle.std.specs.Option.{option_map_or}
use Rattle.afdx_config.specs.Rows.{Rows}
use Rattle.afdx_config.specs.Reading.{listener_at}
use Rattle.afdx_receive.specs.Arrivals.{Arrived}
use Rattle.afdx_receive.specs.Answers.{Answer, Message, Dropped, answer_to}
use Rattle.afdx_receive.specs.Words.{drop_word}
use Rattle.afdx_end_systems.specs.Handovers.{HandedOver, arrival_of, came_to}
pub use Rattle.afdx_text.specs.OutLines.{message_line, drop_line}

-- the line of a system's answer to the frame of a line of the list, which came at this time
abbrev pub answer_line : ℕ → ℕ → List ℕ → Answer → List ℕ
answer_line time line name (Message vl udp payload) = message_line time name vl payload
answer_line time line name (Dropped why) = drop_line time name line (drop_word why)

-- the answer is a message
abbrev pub is_message : Answer → Bool
is_message (Message vl udp payload) = true
is_message (Dropped why) = false

-- the name of the system at this place
abbrev pub name_of : Rows → ℕ → List ℕ
name_of rows system = option_map_or (λ s. s.name) (slice_get rows.systems system) []

-- what a system answers to a frame that is handed over to it, after what arrived there before
abbrev pub answer_at : Rows → List Arrived → HandedOver → ℕ → Answer
answer_at rows past d system = answer_to rows system past (arrival_of d)

-- the same of the system that hears at a port; none where no system does
abbrev pub answered_at : Rows → List Arrived → HandedOver → Option ℕ → Option Answer
answered_at rows past d None = None
answered_at rows past d (Some system) = Some (answer_at rows past d system)

-- the line that tells it, and whether it is a message; nothing where no system hears
abbrev pub line_at : Rows → List Arrived → HandedOver → Option ℕ → List ℕ
line_at rows past d None = []
line_at rows past d (Some system) =
    answer_line d.time d.line (name_of rows system) (answer_at rows past d system)

abbrev pub is_delivered_at : Rows → List Arrived → HandedOver → Option ℕ → Bool
is_delivered_at rows past d None = false
is_delivered_at rows past d (Some system) = is_message (answer_at rows past d system)

-- what is answered to a frame that is handed over after these
unfoldable pub answered : Rows → List HandedOver → HandedOver → Option Answer
answered rows before d =
    answered_at rows (came_to d.port before) d (listener_at rows d.port)

-- the name of the system that hears at a port
unfoldable pub name_at : Rows → ℕ → List ℕ
name_at rows port = option_map_or (name_of rows) (listener_at rows port) []

-- the line of a frame that is handed over after these
unfoldable pub reception_line : Rows → List HandedOver → HandedOver → List ℕ
reception_line rows before d =
    line_at rows (came_to d.port before) d (listener_at rows d.port)

-- whether it delivered a message
unfoldable pub is_delivered : Rows → List HandedOver → HandedOver → Bool
is_delivered rows before d =
    is_delivered_at rows (came_to d.port before) d (listener_at rows d.port)

-- the lines of all frames, those of the oldest first
unfoldable pub lines_of : Rows → List HandedOver → List ℕ
lines_of rows [] = []
lines_of rows (d ∷ before) = lines_of rows before ++ reception_line rows before d

-- how many messages were delivered
unfoldable pub delivered_in : Rows → List HandedOver → ℕ
delivered_in rows [] = 0
delivered_in rows (d ∷ before) =
    if is_delivered rows before d then delivered_in rows before + 1 else delivered_in rows before
