-- The lines of numbers: when and where an arrival comes, or why a number is skipped. A list of them
-- has the newest first.
use Rattle.std.specs.Prelude.{ℕ, ◌≡◌, ◌+◌, ◌≤◌, ◌<◌, List, [], ◌∷◌, ◌++◌, length, Option, Some, None}
use Rattle.afdx_frame.specs.Times.{latest_listed}
use Rattle.afdx_input_lines.specs.declared.frame_line.Heading.{Heading}
use Rattle.afdx_input_sources.specs.Engine.{Item, item_of, without_newest}
use Rattle.afdx_input_sources.specs.Items.{most_frames}
use Rattle.afdx_input_sources.specs.MergedSource.{Order}
use Rattle.afdx_input_files.specs.Recordings.{most_numbers}
use Rattle.afdx_input_sources.specs.declared.number.AsRead.{AsRead}
use Rattle.afdx_input_sources.specs.declared.number.Number.{Number}
use Rattle.afdx_input_sources.specs.declared.number.Number.TheVariants.{Arrival as IsArrival, Skipped as IsSkipped}
use Rattle.afdx_input_sources.specs.declared.number_line.NumberLine.{NumberLine}
use Rattle.afdx_input_sources.specs.declared.number_line.NumberLine.TheVariants as line
use Rattle.afdx_input_sources.specs.Becoming.{message_with, seal_with}
use Rattle.afdx_input_sources.specs.Sequences.{Numbers, latest_of}

-- lines, each with the recorded bytes of its number
abbrev pub Lines : Type 0
Lines = List (Item NumberLine)

-- the arrival that a line is read as, in front of those before it
abbrev pub as_arrival : ℕ → List ℕ → NumberLine → List (Item Heading) → List (Item Heading)
as_arrival n bytes (line.Arrival kind time role side switch port) past =
    let seal = seal_with kind bytes in
    item_of n (record { time = time; side = side; switch = switch; port = port; seal = seal })
    (message_with kind bytes) ∷ past
as_arrival n bytes (line.Skipped reason) past = past

-- those of all lines
unfoldable pub arrivals_listed : Lines → List (Item Heading)
arrivals_listed [] = []
arrivals_listed (x ∷ past) = as_arrival x.number x.bytes x.head (arrivals_listed past)

-- ---- the items that lines stand for: their arrivals, or they themselves

module _ {H : Type 0} (items_of : Lines → List (Item H)) where
  -- these are the items of lines of which this is known
  pub record AreItems (known : Lines → Type 0) (past : List (Item H)) : Type 0 where
    pub lines : Lines
    pub known_so : known lines
    pub items_are : past ≡ items_of lines

  -- without the newest item they are those of some first lines
  pub record WithoutNewest (lines : Lines) : Type 0 where
    pub before : Lines
    pub after : Lines
    pub parts : lines ≡ after ++ before
    pub items_are : items_of before ≡ without_newest (items_of lines)

  abbrev pub CanBePeeled : Type 0
  CanBePeeled = (lines : Lines) → WithoutNewest lines

-- ---- their times

-- the time of an arrival, else this one
abbrev pub time_or : NumberLine → ℕ → ℕ
time_or (line.Arrival kind time role side switch port) latest = time
time_or (line.Skipped reason) latest = latest

-- the time of the newest arrival, or 0
unfoldable pub latest_time : Lines → ℕ
latest_time [] = 0
latest_time (x ∷ past) = time_or x.head (latest_time past)

-- such a number may be read after these: it is the next one, and there are not too many
pub record ReadFollows (past : List (Item AsRead)) (x : Item AsRead) : Type 0 where
  pub number : x.number ≡ length past + 1
  pub few : length past < most_numbers

-- numbers of a recording: an arrival comes at its moment, one that is skipped at once
abbrev pub comes_at : Number → Option ℕ
comes_at (IsArrival found) = Some found.moment
comes_at (IsSkipped reason) = None

abbrev pub number_order : Order Number
number_order = record { time = comes_at; most = most_numbers }

-- such a number may come after these: no earlier, and there are not too many
pub record NumberFollows (past : Numbers) (x : Item Number) : Type 0 where
  pub order : latest_of past ≤ latest_of (x ∷ past)
  pub few : length past < most_numbers

-- such a line may come after these: no earlier, not too late, and there are not too many
pub record LineFollows (past : Lines) (x : Item NumberLine) : Type 0 where
  pub order : latest_time past ≤ latest_time (x ∷ past)
  pub early : latest_time (x ∷ past) ≤ latest_listed
  pub few : length past < most_frames
