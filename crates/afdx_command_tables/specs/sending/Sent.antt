-- What a run that sends answers and writes, and how far it has come.
use Rattle.std.specs.Prelude.{ℕ, ◌≡◌, List, [], length, Option, Result, Ok, Err}
use Rattle.std.specs.Io.KnownBytes.{Appends}
use Rattle.afdx_config.specs.Admission.{links_from}
use Rattle.afdx_config.specs.Rows.{SystemRow, LinkRow, Rows}
use Rattle.afdx_input_lines.specs.Lines.{lines_of}
use Rattle.afdx_input_lines.specs.Calls.{AppendsFront}
use Rattle.afdx_input_lines.specs.declared.fault.RunFault.{RunFault}
use Rattle.afdx_input_sources.specs.Lists.{items_of, HaveNoFault}
use Rattle.afdx_input_sources.specs.Stops.{StopsIn}
use Rattle.afdx_command_tables.specs.Counts.{with_lines}
use Rattle.afdx_input_sources.specs.Listed.{Handed, submissions}
use Rattle.afdx_command_tables.specs.sending.Events.{Event, AreEventsOf, IsAtSubmission, AreDone}
use Rattle.afdx_command_tables.specs.sending.Text.{send_text_at, send_counts}
use Rattle.afdx_command_tables.specs.declared.summary.Summary.{Summary}

-- a system that sends, its links, and the name of its switch: none where each side has one switch
pub record Source : Type 0 where
  pub row : SystemRow
  pub links : List LinkRow
  pub switch : List ℕ

-- the output, which held `old`, now holds after it the text of the events of these submissions
-- up to the last of them
pub record WritesSoFar (s : Source) (old new : Option (List ℕ)) (past : List Handed) : Type 0 where
  pub events : List Event
  pub are_events : AreEventsOf s.row s.links past events
  pub at_submission : IsAtSubmission events
  pub written : Appends old new (send_text_at s.switch s.row events)

-- the same of a beginning of the text of events of these submissions
pub record WritesSome (s : Source) (old new : Option (List ℕ)) (past : List Handed) : Type 0 where
  pub events : List Event
  pub are_events : AreEventsOf s.row s.links past events
  pub written : AppendsFront old new (send_text_at s.switch s.row events)

-- the text of all events of these submissions is written, and they are counted
pub record WritesEvents (s : Source) (counts : Summary) (old new : Option (List ℕ))
    (past : List Handed) : Type 0 where
  pub events : List Event
  pub are_events : AreEventsOf s.row s.links past events
  pub are_done : AreDone s.row s.links events
  pub written : Appends old new (send_text_at s.switch s.row events)
  pub counted : counts ≡ send_counts events

-- all lines were read, none has a fault, and the text of all events of their submissions is
-- written, and they are counted
pub record WritesAll (s : Source) (lines : List (List ℕ)) (old new : Option (List ℕ))
    (summary : Summary) : Type 0 where
  pub sound : HaveNoFault submissions lines (length lines)
  pub counts : Summary
  pub writes : WritesEvents s counts old new (items_of submissions lines (length lines))
  pub counted : summary ≡ with_lines counts (length lines)

-- what a run answers that is given a list of these bytes, after which the input has `rest` and
-- the output `new`
abbrev pub Answers : Source → List ℕ → (rest old new : Option (List ℕ)) →
    Result Summary RunFault → Type 0
Answers s bytes rest old new (Ok summary) = WritesAll s (lines_of bytes) old new summary
Answers s bytes rest old new (Err fault) =
    StopsIn submissions (WritesSoFar s old new) (WritesSome s old new) bytes rest fault

-- the system at this place of the tables of the switch of this name, and the links that it sends
abbrev pub source_of : (switch : List ℕ) → Rows → ℕ → SystemRow → Source
source_of switch t system row =
    record { row = row; links = links_from t.links system; switch = switch }

-- where each side has one switch
abbrev pub source_at : Rows → ℕ → SystemRow → Source
source_at t system row = source_of [] t system row
