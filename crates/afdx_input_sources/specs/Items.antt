-- What the items of a list say, whatever kind of list it is.
use Rattle.std.specs.Prelude.{ℕ, ◌≤◌, ◌<◌, List, length, map, Some}
use Rattle.afdx_frame.specs.Seals.{IsSealedAs}
use Rattle.afdx_frame.specs.Times.{latest_listed}
use Rattle.afdx_police.specs.Arrival.{Arrival}
use Rattle.afdx_input_lines.specs.FrameLines.{listed_frame}
use Rattle.afdx_input_lines.specs.Lines.{most_lines}
use Rattle.afdx_input_lines.specs.SubmissionLines.{submission_of}
use Rattle.afdx_input_lines.specs.declared.frame_line.Heading.{Heading}
use Rattle.afdx_input_lines.specs.declared.submission_line.Handed.{Handed}
use Rattle.afdx_input_sources.specs.Engine.{Item}
use Rattle.afdx_input_sources.specs.MergedSource.{Order}
use Rattle.afdx_input_sources.specs.Lists.{Kind, latest_in}
use Rattle.afdx_input_sources.specs.Listed.{arrival_at, frames}
use Rattle.afdx_input_sources.specs.Listed.{submissions}
use Rattle.afdx_input_sources.specs.Listed as listed

-- what an item says: its line says `says_of` its head and its bytes
abbrev pub thing_of : {H Y X : Type 0} → Kind Y X → (H → List ℕ → Y) → Item H → X
thing_of k says_of x = k.item x.number (says_of x.head x.bytes)

-- the arrival of the frame of line n that has this heading and these bytes
abbrev pub arrival_on : ℕ → Heading → List ℕ → Arrival
arrival_on n heading bytes = arrival_at n (listed_frame heading bytes)

-- the arrivals of the items of a list of frames
abbrev pub arrivals : List (Item Heading) → List Arrival
arrivals past = map (thing_of frames listed_frame) past

-- the submissions of those of a list of messages
abbrev pub handed : List (Item Handed) → List listed.Handed
handed past = map (thing_of submissions submission_of) past

-- the most frames that a run can count: those of any recording, and far more than a list has
abbrev pub most_frames : ℕ
most_frames = 2000000000000000

-- frames of a list have their times
abbrev pub heading_order : Order Heading
heading_order = record { time = λ heading. Some heading.time; most = most_frames }

-- the limits of a run: an item may come after these, no earlier than they, not too late, and there
-- are not too many
pub record IsInOrder {H Y X : Type 0} (k : Kind Y X) (said : Item H → X) (time : H → ℕ) (most : ℕ)
    (past : List (Item H)) (x : Item H) : Type 0 where
  pub order : latest_in k (map said past) ≤ time x.head
  pub early : time x.head ≤ latest_listed
  pub few : length past < most

-- a frame may come after these: in order, and what is said of its seal is true
pub record CanFollow (past : List (Item Heading)) (x : Item Heading) : Type 0 where
  pub in_order :
      IsInOrder frames (thing_of frames listed_frame) (λ head. head.time) most_frames past x
  pub sealed : IsSealedAs x.head.seal x.bytes

-- a message may come after these
abbrev pub CanBeHanded : List (Item Handed) → Item Handed → Type 0
CanBeHanded past x =
    IsInOrder submissions (thing_of submissions submission_of) (λ head. head.time) most_lines past x
