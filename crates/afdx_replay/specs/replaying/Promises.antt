-- The text of a replay of tables that are admitted: that of lines which keep the promises. A list
-- of lines has the latest first.
use Rattle.std.specs.Prelude.{◌≡◌, ℕ, ◌+◌, ◌<◌, false, Some, Ok, List, [], ◌∷◌, ◌++◌, slice_index_or}
use Rattle.afdx_config.specs.Rows.{Rows}
use Rattle.afdx_police.specs.Arrival.{Arrival}
use Rattle.afdx_switch.specs.Admitted.{IsAdmittedRun}
use Rattle.afdx_network.specs.Order.{events_of, events_so_far}
use Rattle.afdx_law_promises.specs.Lines.{Line, Verdict, Departed, Received, IsIn}
use Rattle.afdx_law_promises.specs.Promises.{KeepsPromises, KeepsPromisesSoFar, EachIsToldOnce, EachIsToldOnceSoFar, StreamsAreAccepted}
use Rattle.afdx_input_lines.specs.FrameLines.{ListedFrame}
use Rattle.afdx_end_systems.specs.Receptions.{name_of, answer_line}
use Rattle.afdx_input_sources.specs.Listed.{arrival_at, arrivals_of, said_after}
use Rattle.afdx_replay.specs.policing.Text.{verdict_line}
use Rattle.afdx_text.specs.OutLines.{side_text}
use Rattle.afdx_replay.specs.replaying.Text.{departure_line, replay_text, replay_counts}

-- a line as it is written: `V n side ..`, `D n time side port`, and `M time system vl hex` or
-- `X time system n WORD`
abbrev pub line_text : Rows → Line → List ℕ
line_text t (Verdict v) = verdict_line v.arrival.tag (side_text v.arrival.side) v.reason
line_text t (Departed d) = departure_line false d.frame.tag d.time (side_text d.side) d.port
line_text t (Received d system answer) = answer_line d.time d.frame.tag (name_of t system) answer

-- so no line tells of a loss or of a frame that is too old
unfoldable pub text_of : Rows → List Line → List ℕ
text_of t [] = []
text_of t (line ∷ before) = text_of t before ++ line_text t line

-- an arrival is the frame of its line of the list: its tag is the line's number
pub record IsListed (list : List (List ℕ)) (count : ℕ) (x : Arrival) : Type 0 where
  pub place : ℕ
  pub below : place < count
  pub frame : ListedFrame
  pub said : said_after (arrivals_of list place) (slice_index_or list place []) ≡ Ok (Some frame)
  pub is : x ≡ arrival_at (place + 1) frame

-- so is each arrival of the first `count` lines of a list
abbrev pub AreListed : List (List ℕ) → ℕ → Type 0
AreListed list count = (x : Arrival) → IsIn x (arrivals_of list count) → IsListed list count x

abbrev pub ArrivalsAreListed : Type 0
ArrivalsAreListed = (list : List (List ℕ)) (count : ℕ) → AreListed list count

-- a text of these arrivals, and of all that leaves, is that of lines which keep the promises,
-- accept a lawful stream, and tell its messages once each
pub record TellsPromises (t : Rows) (arrivals : List Arrival) (text : List ℕ) : Type 0 where
  pub lines : List Line
  pub written : text ≡ text_of t lines
  pub promises : KeepsPromises t arrivals lines
  pub accepted : StreamsAreAccepted t arrivals lines
  pub once : EachIsToldOnce t arrivals lines
  pub once_so_far : EachIsToldOnceSoFar t arrivals lines

-- a text up to the last of these arrivals, as after a fault of the list in the line after it
pub record TellsPromisesSoFar (t : Rows) (arrivals : List Arrival) (text : List ℕ) : Type 0 where
  pub lines : List Line
  pub written : text ≡ text_of t lines
  pub promises : KeepsPromisesSoFar t arrivals lines
  pub accepted : StreamsAreAccepted t arrivals lines

-- what a replay of admitted tables tells
abbrev pub ReplayIsAsPromised : Type 0
ReplayIsAsPromised = (t : Rows) (arrivals : List Arrival) → IsAdmittedRun t arrivals →
    TellsPromises t arrivals (replay_text t (events_of t arrivals))

abbrev pub ReplaySoFarIsAsPromised : Type 0
ReplaySoFarIsAsPromised = (t : Rows) (arrivals : List Arrival) → IsAdmittedRun t arrivals →
    TellsPromisesSoFar t arrivals (replay_text t (events_so_far t arrivals))

-- and counts: nothing is lost, and nothing is too old
pub record CountsNone (t : Rows) (arrivals : List Arrival) : Type 0 where
  pub lost : (replay_counts t (events_of t arrivals)).lost ≡ 0
  pub too_old : (replay_counts t (events_of t arrivals)).too_old ≡ 0

abbrev pub NoneIsCounted : Type 0
NoneIsCounted = (t : Rows) (arrivals : List Arrival) → IsAdmittedRun t arrivals →
    CountsNone t arrivals
