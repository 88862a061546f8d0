-- From the lists of the senders to the messages of the receivers over several switches a side, over
-- texts: what each sender took is told once, at whichever switch. Lists of lines and of submissions
-- have the first one first.
use Rattle.std.specs.Prelude.{◌≡◌, ℕ, ◌<◌, ◌≤◌, ◌==◌, ◌&&◌, Bool, false, List, ◌++◌, length, filter}
use Rattle.std.specs.Prelude.{[], map, reverse, slice_get, take, Option, Some, None, Result, Ok}
use Rattle.std.specs.Prelude.{Err}
use Rattle.std.specs.List.{AllByRecursion}
use Rattle.afdx_frame.specs.Times.{latest_listed}
use Rattle.afdx_frame.specs.Sides.{is_side}
use Rattle.afdx_frame.specs.declared.link.Side.{Side}
use Rattle.afdx_admit.specs.Cascade.{RowAt, IsCascadeAdmitted}
use Rattle.afdx_config.specs.Rows.{SystemRow}
use Rattle.afdx_config.specs.SentList.{Message}
use Rattle.afdx_config.specs.Switches.{NamedRows, AreSwitches}
use Rattle.afdx_cascade.specs.EndToEnd.{begins_at}
use Rattle.afdx_cascade.specs.Plans.{plan_of, tables_of}
use Rattle.afdx_cascade.specs.Kept.{KeepsEndToEnd}
use Rattle.afdx_cascade.specs.Receivers.{IsWayToSystem, heard_by, lines_of as lines_told}
use Rattle.afdx_cascade.specs.Receivers.{messages_at, most_sent}
use Rattle.afdx_cascade.specs.Runs.{AreAll}
use Rattle.afdx_cascade.specs.SwitchEvents.{SwitchEvent}
use Rattle.afdx_command_tables.specs.declared.summary.Summary.{Summary}
use Rattle.afdx_input_sources.specs.Lists.{HaveNoFault, items_of}
use Rattle.afdx_input_lines.specs.Lines.{lines_of}
use Rattle.afdx_input_lines.specs.SitedLines.{NamedCables, SitedFrame, sited_line_says}
use Rattle.afdx_input_lines.specs.declared.fault.LineFault.{LineFault}
use Rattle.afdx_replay.specs.cascading.Ran.{WritesList, lists}
use Rattle.afdx_replay.specs.cascading.Sited.{sites_of}
use Rattle.afdx_input_runs.specs.ListText.{switch_name}
use Rattle.afdx_send.specs.Complete.{submissions_of, AreReleasesOfAll}
use Rattle.afdx_send.specs.Releases.{Submission, Release}
use Rattle.afdx_command_tables.specs.sending.Events.{Event, taken_by, turns_in}
use Rattle.afdx_command_tables.specs.sending.Sent.{Source, WritesAll, source_of}
use Rattle.afdx_command_tables.specs.sending.Text.{send_text_at}
use Rattle.afdx_law_text.specs.EndToEnd.{HasSent}

-- ---- a text in a list

-- what a line says is a frame that comes in at this port of this switch on this side
abbrev pub says_there : (k : ℕ) → Side → ℕ → Result (Option SitedFrame) LineFault → Bool
says_there k side port (Ok (Some f)) =
    (f.switch == k) && (is_side side f.frame.side && (port == f.frame.port))
says_there k side port (Ok None) = false
says_there k side port (Err fault) = false

-- the lines of a list over these switches that, each read alone, do
abbrev pub lines_there : List NamedCables → (k : ℕ) → Side → ℕ → List (List ℕ) → List (List ℕ)
lines_there sites k side port lines =
    filter (λ line. says_there k side port (sited_line_says sites 0 line)) lines

-- The text of a system of a switch is merged into a list: on both sides the lines at its port there
-- are those of the text, in its order. Lines at other ports stand between them in any way.
abbrev pub HoldsTextOf : List NamedRows → (k : ℕ) → SystemRow → List (List ℕ) → List ℕ → Type 0
HoldsTextOf switches k s list text = (side : Side) →
    lines_there (sites_of switches) k side s.port list
    ≡ lines_there (sites_of switches) k side s.port (lines_of text)

-- A network may fail in the middle: on a side the lines there are the first of those of the text.
abbrev pub HoldsFirstOf : List NamedRows → (k : ℕ) → SystemRow → Side → List (List ℕ) → List ℕ →
    Type 0
HoldsFirstOf switches k s side list text = (later : List (List ℕ))
    × (lines_there (sites_of switches) k side s.port (lines_of text)
    ≡ lines_there (sites_of switches) k side s.port list ++ later)

-- a system of a switch, which is no neighbour, sends for a list of submissions that has no fault
pub record HasSentFrom (switches : List NamedRows) (k sender : ℕ) (s : SystemRow)
    (given : List (List ℕ)) (sends : List Event) : Type 0 where
  pub within : k < length switches
  pub own : sender < (tables_of switches k).own
  pub sent : HasSent (tables_of switches k) sender s given sends

-- its text, in which its switch is named
abbrev pub text_of : List NamedRows → (k : ℕ) → SystemRow → List Event → List ℕ
text_of switches k s sends = send_text_at (switch_name switches k) s sends

-- as `run_send` is given it
abbrev pub source_from : List NamedRows → (k sender : ℕ) → SystemRow → Source
source_from switches k sender s =
    source_of (switch_name switches k) (tables_of switches k) sender s

-- ---- a list that is replayed

-- the list has no fault, these are all events of its frames, and they keep what an admitted cascade
-- promises from end to end
pub record IsReplayed (switches : List NamedRows) (list : List (List ℕ))
    (events : List SwitchEvent) : Type 0 where
  pub are : AreSwitches switches
  pub admitted : IsCascadeAdmitted switches
  pub sound : HaveNoFault (lists switches) list (length list)
  pub all : AreAll (plan_of switches) (reverse (items_of (lists switches) list (length list)))
      events
  pub kept : KeepsEndToEnd switches events

-- ---- exactly once

abbrev pub messages_of : List Submission → List Message
messages_of submissions = map (λ s. s.message) submissions

-- What a system is told of a link are the messages that the link took, of those to the system's UDP
-- ports: each once, in the order of their releases; where the link has one sub-VL, as they were
-- taken.
pub record AreHeardAsTaken (switches : List NamedRows) (events : List SwitchEvent) (r first : RowAt)
    (system : ℕ) (taken : List Submission) : Type 0 where
  pub releases : List Release
  pub all : AreReleasesOfAll first.row taken releases
  pub told : messages_at system r (lines_told switches events r.switch)
      ≡ heard_by switches system r (messages_of (submissions_of releases))
  pub of_one_sub : first.row.subs ≡ 1 →
      messages_at system r (lines_told switches events r.switch)
      ≡ heard_by switches system r (messages_of taken)

-- each receiver, at whichever switch, of each link that the system at this place of a switch sends
-- is told what the link took
abbrev pub EachIsHeardAsTaken : List NamedRows → List SwitchEvent → (k sender : ℕ) → List Event →
    Type 0
EachIsHeardAsTaken switches events k sender sends =
    (r : RowAt) (before : List RowAt) (system : ℕ) →
    IsWayToSystem switches r before system →
    (begins_at r before).switch ≡ k →
    (begins_at r before).row.from ≡ sender →
    AreHeardAsTaken switches events r (begins_at r before) system
    (taken_by (begins_at r before).row.vl sends)

-- End to end: where the text of a system of any switch is merged into a list without fault,
-- whatever else the list holds at other ports, the lines of a replay of it tell what the system's
-- links took.
abbrev pub TakenComesEndToEnd : Type 0
TakenComesEndToEnd =
    (switches : List NamedRows) (list : List (List ℕ)) (events : List SwitchEvent)
    (k sender : ℕ) (s : SystemRow) (given : List (List ℕ)) (sends : List Event) →
    IsReplayed switches list events →
    HasSentFrom switches k sender s given sends →
    HoldsTextOf switches k s list (text_of switches k s sends) →
    EachIsHeardAsTaken switches events k sender sends

-- Where on each side only the first of its lines come, and on one side all, it is the same.
abbrev pub TakenComesByOneSide : Type 0
TakenComesByOneSide =
    (switches : List NamedRows) (list : List (List ℕ)) (events : List SwitchEvent)
    (k sender : ℕ) (s : SystemRow) (given : List (List ℕ)) (sends : List Event) →
    IsReplayed switches list events →
    HasSentFrom switches k sender s given sends →
    ((side : Side) → HoldsFirstOf switches k s side list (text_of switches k s sends)) →
    (whole : Side) →
    lines_there (sites_of switches) k whole s.port list
    ≡ lines_there (sites_of switches) k whole s.port (lines_of (text_of switches k s sends)) →
    EachIsHeardAsTaken switches events k sender sends

-- of the first n messages that a link released, a system is told those to its UDP ports
pub record AreHeardSoFar (switches : List NamedRows) (events : List SwitchEvent) (r first : RowAt)
    (system : ℕ) (taken : List Submission) (n : ℕ) : Type 0 where
  pub releases : List Release
  pub all : AreReleasesOfAll first.row taken releases
  pub told : messages_at system r (lines_told switches events r.switch)
      ≡ heard_by switches system r (take n (messages_of (submissions_of releases)))

-- Where so on both sides, what the links took is told as far as one of them has come: as many
-- messages as frames of the link came to its first switch on the side where more came.
abbrev pub TakenComesSoFar : Type 0
TakenComesSoFar =
    (switches : List NamedRows) (list : List (List ℕ)) (events : List SwitchEvent)
    (k sender : ℕ) (s : SystemRow) (given : List (List ℕ)) (sends : List Event) →
    IsReplayed switches list events →
    HasSentFrom switches k sender s given sends →
    ((side : Side) → HoldsFirstOf switches k s side list (text_of switches k s sends)) →
    (r : RowAt) (before : List RowAt) (system : ℕ) →
    IsWayToSystem switches r before system →
    (begins_at r before).switch ≡ k →
    (begins_at r before).row.from ≡ sender →
    AreHeardSoFar switches events r (begins_at r before) system
    (taken_by (begins_at r before).row.vl sends) (most_sent switches events (begins_at r before))

-- What a system of a switch has sent is what `run_send` answers and writes for it, with the name of
-- its switch, to an output that was empty.
abbrev pub WrittenIsSentFrom : Type 0
WrittenIsSentFrom =
    (switches : List NamedRows) (k sender : ℕ) (s : SystemRow) (given text : List ℕ)
    (sends : Summary) →
    k < length switches →
    sender < (tables_of switches k).own →
    slice_get (tables_of switches k).systems sender ≡ Some s →
    (sent : WritesAll (source_from switches k sender s) (lines_of given) (Some []) (Some text)
    sends) →
    AllByRecursion (λ turn. turn.end ≤ latest_listed) (turns_in sent.writes.events) →
    HasSentFrom switches k sender s (lines_of given) sent.writes.events
    × (text ≡ text_of switches k s sent.writes.events)

-- So the same is true of the two runs: of what `run_send` answers and writes, and of what
-- `run_cascade` answers and writes for a list that holds this text.
abbrev pub RunsBringTaken : Type 0
RunsBringTaken =
    (switches : List NamedRows) (k sender : ℕ) (s : SystemRow) (given text bytes : List ℕ)
    (old new : Option (List ℕ)) (sends replays : Summary) →
    AreSwitches switches →
    IsCascadeAdmitted switches →
    k < length switches →
    sender < (tables_of switches k).own →
    slice_get (tables_of switches k).systems sender ≡ Some s →
    (sent : WritesAll (source_from switches k sender s) (lines_of given) (Some []) (Some text)
    sends) →
    AllByRecursion (λ turn. turn.end ≤ latest_listed) (turns_in sent.writes.events) →
    HoldsTextOf switches k s (lines_of bytes) text →
    (ran : WritesList switches (lines_of bytes) old new replays) →
    EachIsHeardAsTaken switches ran.told.events k sender sent.writes.events
