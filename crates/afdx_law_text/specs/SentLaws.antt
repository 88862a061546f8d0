-- What is true of the texts of senders: what a replay reads of a line, and that a list of
-- submissions has one text.
use Rattle.std.specs.Prelude.{ℕ, ◌≡◌, ◌≤◌, List, [], ◌∷◌, length, Some, slice_get}
use Rattle.std.specs.List.{AllByRecursion}
use Rattle.afdx_frame.specs.Times.{latest_listed}
use Rattle.afdx_frame.specs.declared.link.Side.{Side}
use Rattle.afdx_config.specs.Admission.{links_from}
use Rattle.afdx_config.specs.Lawful.{IsLawful}
use Rattle.afdx_config.specs.Rows.{SystemRow, Rows}
use Rattle.afdx_police.specs.Arrival.{Arrival, arrival_with}
use Rattle.afdx_input_lines.specs.Lines.{lines_of}
use Rattle.afdx_port.specs.Schedule.{Turn}
use Rattle.afdx_send.specs.Frames.{Frame}
use Rattle.afdx_law_promises.specs.Sent.{frame_on}
use Rattle.afdx_input_sources.specs.Listed.{AreSound, arrivals_of}
use Rattle.afdx_input_sources.specs.Lists.{items_of, HaveNoFault}
use Rattle.afdx_input_sources.specs.Listed.{Handed, submissions}
use Rattle.afdx_command_tables.specs.sending.Events.{Event, turns_in, AreEventsOf, AreDone}
use Rattle.afdx_command_tables.specs.sending.Text.{side_text, sent_line}
use Rattle.afdx_command_tables.specs.sending.Sent.{source_at, WritesAll}
use Rattle.afdx_command_tables.specs.declared.summary.Summary.{Summary}

-- as a list of frames, the text has one line, which says this arrival
pub record IsArrival (text : List ℕ) (x : Arrival) : Type 0 where
  pub one_line : length (lines_of text) ≡ 1
  pub sound : AreSound (lines_of text) 1
  pub arrivals : arrivals_of (lines_of text) 1 ≡ x ∷ []

-- Of an emission that ends by the last time of a list both lines, each read as a list of one line,
-- are arrivals: of its frame for that side, when its slot ends, at the system's port.
abbrev pub IsTold : SystemRow → Turn Frame → Type 0
IsTold s turn = turn.end ≤ latest_listed → (side : Side) →
    IsArrival (sent_line (side_text side) s.port turn.end (frame_on s side turn.entry.item))
    (arrival_with 1 turn.end side s.port (frame_on s side turn.entry.item))

-- So it is with each emission of a sender's text: of the events of the first n lines of any list of
-- submissions, in which no fault was found.
abbrev pub SentLinesAreArrivals : Type 0
SentLinesAreArrivals = (t : Rows) (sender : ℕ) (s : SystemRow) (list : List (List ℕ)) (n : ℕ)
    (events : List Event) →
    IsLawful t →
    slice_get t.systems sender ≡ Some s →
    HaveNoFault submissions list n →
    AreEventsOf s (links_from t.links sender) (items_of submissions list n) events →
    AllByRecursion (IsTold s) (turns_in events)

-- What a run that sends tells is determined by its list: events of the same submissions, after
-- which all is emitted, are the same.
abbrev pub EventsAreOne : Type 0
EventsAreOne = (t : Rows) (sender : ℕ) (s : SystemRow) (past : List Handed)
    (ones others : List Event) →
    IsLawful t →
    AreEventsOf s (links_from t.links sender) past ones →
    AreDone s (links_from t.links sender) ones →
    AreEventsOf s (links_from t.links sender) past others →
    AreDone s (links_from t.links sender) others →
    ones ≡ others

-- So two runs over these lines write one text, and answer one summary.
abbrev pub SendsAreOne : Type 0
SendsAreOne = (t : Rows) (sender : ℕ) (s : SystemRow) (list : List (List ℕ))
    (old one other : List ℕ) (first second : Summary) →
    IsLawful t →
    WritesAll (source_at t sender s) list (Some old) (Some one) first →
    WritesAll (source_at t sender s) list (Some old) (Some other) second →
    (one ≡ other) × (first ≡ second)
