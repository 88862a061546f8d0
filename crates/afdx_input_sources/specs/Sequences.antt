-- What stands in a recording: its numbers one after another, up to the first fault that doesn't
-- depend on their order. A list of them has the newest first.
use Rattle.std.specs.Prelude.{ℕ, Bool, true, false, not, ◌+◌, ◌&&◌, ◌||◌, nat_lt, List, [], ◌∷◌, length, map}
use Rattle.std.specs.Prelude.{Result, Ok, Err, if◌then◌else◌}
use Rattle.afdx_input_lines.specs.declared.recording_fault.RecordingFault.{RecordingFault}
use Rattle.afdx_input_lines.specs.declared.recording_fault.RecordingFault.TheVariants.{NoArrival}
use Rattle.afdx_input_files.specs.Recordings.{Numbered, Recording, Totals, Ending, Over, Faulted}
use Rattle.afdx_input_sources.specs.Engine.{Item, item_of}
use Rattle.afdx_input_sources.specs.declared.becoming.FoundFrame.{FoundFrame}
use Rattle.afdx_input_sources.specs.declared.becoming.NoArrival.TheVariants as becomes_no
use Rattle.afdx_input_sources.specs.declared.becoming.NoArrival as no_arrival
use Rattle.afdx_input_sources.specs.declared.counts.SkipCounts.{SkipCounts}
use Rattle.afdx_input_sources.specs.declared.number.AsRead.{AsRead}
use Rattle.afdx_input_sources.specs.declared.number.Number.{Number}
use Rattle.afdx_input_sources.specs.declared.number.Number.TheVariants.{Arrival, Skipped}
use Rattle.afdx_input_sources.specs.Becoming.{Options, becomes, first_bytes}
use Rattle.afdx_input_sources.specs.Claims.{Ports}
use Rattle.afdx_input_sources.specs.Counting.{no_counts, count_one}

-- numbers, each with its recorded bytes
abbrev pub Numbers : Type 0
Numbers = List (Item Number)

-- a number as it is read
abbrev pub number_read : Item AsRead → Item Number
number_read x = item_of x.number x.head.becomes x.bytes

abbrev pub numbers_read : List (Item AsRead) → Numbers
numbers_read past = map number_read past

abbrev pub is_arrival : Number → Bool
is_arrival (Arrival found) = true
is_arrival (Skipped reason) = false

unfoldable pub has_arrival : Numbers → Bool
has_arrival [] = false
has_arrival (x ∷ past) = is_arrival x.head || has_arrival past

-- the moment of an arrival, else this one
abbrev pub moment_or : Number → ℕ → ℕ
moment_or (Arrival found) latest = found.moment
moment_or (Skipped reason) latest = latest

-- the moment of the newest arrival, or 0
unfoldable pub latest_of : Numbers → ℕ
latest_of [] = 0
latest_of (x ∷ past) = moment_or x.head (latest_of past)

-- how many were skipped for each reason, and how many arrivals are claimed, and contradicted
unfoldable pub counts_of : Numbers → SkipCounts
counts_of [] = no_counts
counts_of (x ∷ past) = count_one x.head (counts_of past)

-- a number that becomes this
abbrev pub number_by : Result FoundFrame no_arrival.NoArrival → Result Number RecordingFault
number_by (Ok found) = Ok (Arrival found)
number_by (Err (becomes_no.Skipped reason)) = Ok (Skipped reason)
number_by (Err (becomes_no.Faulted fault)) = Err fault

-- what comes next is this number, behind these
unfoldable pub number_after : Options → Ports → Numbers → Numbered → Result Number RecordingFault
number_after options ports past item =
    number_by (becomes options ports (length past + 1) item.what item.bytes)

-- all numbers up to the first fault, how that ends, and what the recording comes to by its end
pub record Outcome : Type 0 where
  pub numbers : Numbers
  pub ending : Ending
  pub totals : Totals

-- behind the last number: a recording that has numbers has an arrival
abbrev pub has_no_arrival : Numbers → Bool
has_no_arrival past = nat_lt 0 (length past) && not (has_arrival past)

abbrev pub ending_after : Numbers → Ending → Ending
ending_after past Over = if has_no_arrival past then Faulted (NoArrival (length past)) else Over
ending_after past (Faulted fault) = Faulted fault

abbrev pub and_then : (Number → Outcome) → Numbers → Totals → Result Number RecordingFault →
    Outcome
and_then next past totals (Ok number) = next number
and_then next past totals (Err fault) =
    record { numbers = past; ending = Faulted fault; totals = totals }

-- this number stands behind those, with those of its bytes that are used
abbrev pub with_number : Numbers → List ℕ → Number → Numbers
with_number past bytes number = item_of (length past + 1) number (first_bytes bytes) ∷ past

-- what stands behind these numbers, and such an ending
unfoldable pub read_of_items : Options → Ports → Ending → Totals → Numbers → List Numbered →
    Outcome
read_of_items options ports ending totals past [] =
    record { numbers = past; ending = ending_after past ending; totals = totals }
read_of_items options ports ending totals past (item ∷ items) =
    and_then (λ number. read_of_items options ports ending totals
    (with_number past item.bytes number) items) past totals (number_after options ports past item)

-- the rest of a recording, behind these numbers
abbrev pub read_from : Options → Ports → Numbers → Recording → Outcome
read_from options ports past recording =
    read_of_items options ports recording.ending recording.totals past recording.items

-- a recording as it is read, before its arrivals are put in order
abbrev pub as_read : Options → Ports → Recording → Outcome
as_read options ports recording = read_from options ports [] recording
