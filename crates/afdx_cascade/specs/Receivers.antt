-- Messages in an admitted cascade: from the system that sends a link's lawful stream to each system
-- to which the link goes, at whichever switch. Lists of events have the latest first, a way the
-- last switch, and messages come in the order in which they were sent.
use Rattle.std.specs.Prelude.{◌≡◌, ℕ, ◌<◌, true, max, Some, List, ◌++◌, filter, length, reverse}
use Rattle.std.specs.Prelude.{slice_get, take}
use Rattle.afdx_frame.specs.declared.link.Side.{Side}
use Rattle.afdx_frame.specs.declared.link.Side.TheVariants.{A, B}
use Rattle.afdx_config.specs.LawfulStream.{Sending}
use Rattle.afdx_config.specs.Reading.{has_port}
use Rattle.afdx_config.specs.Rows.{SystemRow, is_to}
use Rattle.afdx_config.specs.SentList.{Message}
use Rattle.afdx_config.specs.Switches.{NamedRows}
use Rattle.afdx_admit.specs.Cascade.{RowAt}
use Rattle.afdx_police.specs.Arrival.{Arrival}
use Rattle.afdx_switch.specs.Streams.{at_own_port, AreFirstOf, IsFed, IsStreamOf}
use Rattle.afdx_network.specs.Events.{Event}
use Rattle.afdx_network.specs.Order.{events_of}
use Rattle.afdx_law_promises.specs.Lines.{Line, messages_told, told_by}
use Rattle.afdx_law_promises.specs.Promises.{most_come, told}
use Rattle.afdx_cascade.specs.Admitted.{IsRow, AreRowsBefore, IsAdmittedCascade}
use Rattle.afdx_cascade.specs.EndToEnd.{AreAllEvents, begins_at, left_from}
use Rattle.afdx_cascade.specs.Plans.{tables_of}
use Rattle.afdx_cascade.specs.SwitchEvents.{SwitchEvent, at_switch, came_to}

-- ---- a receiver

-- the row goes to this system of its switch, which is no neighbour, and these are the rows before
-- it
pub record IsWayToSystem (switches : List NamedRows) (r : RowAt) (before : List RowAt)
    (system : ℕ) : Type 0 where
  pub row : IsRow switches r
  pub are : AreRowsBefore switches r before
  pub receiver : SystemRow
  pub stands : slice_get (tables_of switches r.switch).systems system ≡ Some receiver
  pub own : system < (tables_of switches r.switch).own
  pub goes : is_to system r.row ≡ true

-- the messages that such lines of its switch tell it on the link
abbrev pub messages_at : (system : ℕ) → RowAt → List Line → List Message
messages_at system r lines = reverse (messages_told system r.row.vl lines)

-- of these messages, those to its UDP ports for the link
abbrev pub heard_by : List NamedRows → (system : ℕ) → RowAt → List Message → List Message
heard_by switches system r messages =
    filter (λ m. has_port (tables_of switches r.switch).ports system r.row.vl m.udp) messages

-- the lines of a switch that tell all events of its own tables, of what came to it
abbrev pub lines_of : List NamedRows → List SwitchEvent → (k : ℕ) → List Line
lines_of switches so_far k = told (tables_of switches k) (came_to k so_far)

-- and those that tell its events so far
abbrev pub lines_so_far : List NamedRows → List SwitchEvent → (k : ℕ) → List Line
lines_so_far switches so_far k = told_by (tables_of switches k) (at_switch k so_far)

-- ---- a sender

-- a lawful stream, with these messages, of the link of the row where the way begins
abbrev pub IsStreamFrom : List NamedRows → RowAt → List Message → List Sending → Type 0
IsStreamFrom switches first messages stream =
    IsStreamOf (tables_of switches first.switch) first.row messages stream

-- on a side what names the link at its first switch, and comes at its sender's port
abbrev pub sent_on : List NamedRows → List SwitchEvent → RowAt → Side → List Arrival
sent_on switches so_far first side =
    at_own_port (tables_of switches first.switch) first.row side (came_to first.switch so_far)

-- so many came on the side where more did
abbrev pub most_sent : List NamedRows → List SwitchEvent → RowAt → ℕ
most_sent switches so_far first =
    most_come (tables_of switches first.switch) first.row (came_to first.switch so_far)

-- there, on a side, comes this stream, whole
abbrev pub IsFedOn : List NamedRows → List SwitchEvent → RowAt → List Sending → Side → Type 0
IsFedOn switches so_far first stream side =
    IsFed (tables_of switches first.switch) first.row stream side (came_to first.switch so_far)

-- ---- exactly once

-- Where the first frames of one lawful stream came on each side, each receiver is told exactly the
-- messages to its UDP ports, each once and in order, as far as one of the sides has come.
abbrev pub EachIsHeardOnceSoFar : List NamedRows → List SwitchEvent → Type 0
EachIsHeardOnceSoFar switches so_far =
    (r : RowAt) (before : List RowAt) (system : ℕ) (messages : List Message)
    (stream : List Sending) →
    IsWayToSystem switches r before system →
    IsStreamFrom switches (begins_at r before) messages stream →
    ((side : Side) → AreFirstOf side stream (sent_on switches so_far (begins_at r before) side)) →
    messages_at system r (lines_of switches so_far r.switch)
    ≡ heard_by switches system r (take (most_sent switches so_far (begins_at r before)) messages)

-- Where the stream came whole on both sides, it is told all of them.
abbrev pub EachIsHeardOnce : List NamedRows → List SwitchEvent → Type 0
EachIsHeardOnce switches so_far =
    (r : RowAt) (before : List RowAt) (system : ℕ) (messages : List Message)
    (stream : List Sending) →
    IsWayToSystem switches r before system →
    IsStreamFrom switches (begins_at r before) messages stream →
    ((side : Side) → IsFedOn switches so_far (begins_at r before) stream side) →
    messages_at system r (lines_of switches so_far r.switch) ≡ heard_by switches system r messages

-- One side is enough: the other may fail at any frame, or have none.
abbrev pub OneSideIsHeard : List NamedRows → List SwitchEvent → Type 0
OneSideIsHeard switches so_far =
    (r : RowAt) (before : List RowAt) (system : ℕ) (messages : List Message)
    (stream : List Sending) (whole : Side) →
    IsWayToSystem switches r before system →
    IsStreamFrom switches (begins_at r before) messages stream →
    ((side : Side) → AreFirstOf side stream (sent_on switches so_far (begins_at r before) side)) →
    IsFedOn switches so_far (begins_at r before) stream whole →
    messages_at system r (lines_of switches so_far r.switch) ≡ heard_by switches system r messages

-- So it is for all events of an admitted cascade.
abbrev pub MessagesComeSoFar : Type 0
MessagesComeSoFar =
    (switches : List NamedRows) (so_far : List SwitchEvent) → AreAllEvents switches so_far →
    EachIsHeardOnceSoFar switches so_far

abbrev pub MessagesComeOnce : Type 0
MessagesComeOnce =
    (switches : List NamedRows) (so_far : List SwitchEvent) → AreAllEvents switches so_far →
    EachIsHeardOnce switches so_far

abbrev pub OneSideIsEnough : Type 0
OneSideIsEnough =
    (switches : List NamedRows) (so_far : List SwitchEvent) → AreAllEvents switches so_far →
    OneSideIsHeard switches so_far

-- ---- before all events are over

-- so many frames of the link left for the system on the side where more did
abbrev pub most_left : List SwitchEvent → RowAt → (port : ℕ) → ℕ
most_left so_far r port =
    max (length (left_from so_far A r.switch port r.row.vl))
    (length (left_from so_far B r.switch port r.row.vl))

-- Each receiver was told exactly the messages to its UDP ports, each once and in order, as far as
-- the stream's frames left for it on one of the sides: the first of those that it is told.
abbrev pub FirstAreHeard : List NamedRows → List SwitchEvent → Type 0
FirstAreHeard switches so_far =
    (r : RowAt) (before : List RowAt) (system : ℕ) (messages : List Message)
    (stream : List Sending) →
    (way : IsWayToSystem switches r before system) →
    IsStreamFrom switches (begins_at r before) messages stream →
    ((side : Side) → AreFirstOf side stream (sent_on switches so_far (begins_at r before) side)) →
    messages_at system r (lines_so_far switches so_far r.switch)
    ≡ heard_by switches system r (take (most_left so_far r way.receiver.port) messages)

-- the events at each switch are the first of all events of its own tables and of what came to it
abbrev pub HaveBegun : List NamedRows → List SwitchEvent → Type 0
HaveBegun switches so_far =
    (k : ℕ) → k < length switches →
    (later : List Event)
    × (events_of (tables_of switches k) (came_to k so_far) ≡ later ++ at_switch k so_far)

-- So it is for first events of an admitted cascade.
abbrev pub FirstMessagesCome : Type 0
FirstMessagesCome =
    (switches : List NamedRows) (so_far : List SwitchEvent) → IsAdmittedCascade switches so_far →
    HaveBegun switches so_far →
    FirstAreHeard switches so_far
