-- The frames among the lines of recordings: those that came in, and those that left. A list of them
-- has the newest first.
use Rattle.std.specs.Prelude.{ℕ, List, [], ◌∷◌}
use Rattle.afdx_input_sources.specs.Engine.{Item, item_of}
use Rattle.afdx_input_sources.specs.declared.number_line.NumberLine.{NumberLine}
use Rattle.afdx_input_sources.specs.declared.number_line.NumberLine.TheVariants as line
use Rattle.afdx_input_sources.specs.Becoming.{message_with, seal_with}
use Rattle.afdx_input_sources.specs.NumberLines.{Lines}
use Rattle.afdx_input_sources.specs.Taking.{Taken}
use Rattle.afdx_input_runs.specs.Joining.{Frame, frames_of}
use Rattle.afdx_input_runs.specs.declared.seen.Seen.{Seen}

-- the frame that a line is read as, in front of those before it
abbrev pub as_seen : ℕ → List ℕ → NumberLine → List (Item Seen) → List (Item Seen)
as_seen n bytes (line.Arrival kind time role side switch port) past =
    let seal = seal_with kind bytes in
    item_of n (record {
      role = role;
      heading = record { time = time; side = side; switch = switch; port = port; seal = seal };
    })
    (message_with kind bytes) ∷ past
as_seen n bytes (line.Skipped reason) past = past

-- those of all lines
unfoldable pub seen_listed : Lines → List (Item Seen)
seen_listed [] = []
seen_listed (x ∷ past) = as_seen x.number x.bytes x.head (seen_listed past)

abbrev pub frames_listed : Lines → List Frame
frames_listed lines = frames_of (seen_listed lines)

-- all that a run takes
abbrev pub frames_in : Taken → List Frame
frames_in taken = frames_listed taken.lines
