-- From the lists of the senders to the messages of the receivers, over texts: what each sender took
-- is told once. Lists of lines and of submissions have the first one first.
use Rattle.std.specs.Prelude.{ℕ, ◌≡◌, ◌≤◌, ◌==◌, ◌&&◌, Bool, true, false, List, [], length, filter, map, reverse, Option, Some, None, Result, Ok, Err, slice_get}
use Rattle.std.specs.List.{AllByRecursion}
use Rattle.afdx_frame.specs.Sides.{is_side}
use Rattle.afdx_frame.specs.Times.{latest_listed}
use Rattle.afdx_frame.specs.declared.link.Side.{Side}
use Rattle.afdx_config.specs.Admission.{IsAdmitted, links_from}
use Rattle.afdx_config.specs.Lawful.{IsLawful}
use Rattle.afdx_config.specs.Reading.{has_port}
use Rattle.afdx_config.specs.Rows.{SystemRow, LinkRow, Rows, is_to}
use Rattle.afdx_config.specs.SentList.{Message}
use Rattle.afdx_input_lines.specs.FrameLines.{ListedFrame, line_says}
use Rattle.afdx_input_lines.specs.Lines.{lines_of, most_lines}
use Rattle.afdx_input_lines.specs.declared.fault.LineFault.{LineFault}
use Rattle.afdx_send.specs.Complete.{submissions_of, AreReleasesOfAll}
use Rattle.afdx_send.specs.Releases.{Submission, Release}
use Rattle.afdx_law_promises.specs.Lines.{Line, messages_told}
use Rattle.afdx_law_promises.specs.Promises.{EachIsToldOnce}
use Rattle.afdx_input_sources.specs.Listed.{AreSound, arrivals_of}
use Rattle.afdx_input_sources.specs.Lists.{items_of, HaveNoFault}
use Rattle.afdx_replay.specs.replaying.PromisedRun.{WritesPromised}
use Rattle.afdx_input_sources.specs.Listed.{submissions}
use Rattle.afdx_command_tables.specs.sending.Events.{Event, turns_in, taken_by, AreEventsOf, AreDone}
use Rattle.afdx_command_tables.specs.sending.Text.{send_text}
use Rattle.afdx_command_tables.specs.sending.Sent.{source_at, WritesAll}
use Rattle.afdx_command_tables.specs.declared.summary.Summary.{Summary}

-- what a line says is a frame that comes in at this port on this side
abbrev pub says_at : Side → ℕ → Result (Option ListedFrame) LineFault → Bool
says_at side port (Ok (Some frame)) = is_side side frame.side && (port == frame.port)
says_at side port (Ok None) = false
says_at side port (Err fault) = false

-- the lines of a frame list that, each read alone, do
abbrev pub lines_at : Side → ℕ → List (List ℕ) → List (List ℕ)
lines_at side port lines = filter (λ line. says_at side port (line_says 0 line)) lines

-- A system's text is merged into a list: on both sides the lines at the system's port are those of
-- the text, in its order. Lines at other ports stand between them in any way.
abbrev pub HoldsText : SystemRow → List (List ℕ) → List ℕ → Type 0
HoldsText s list text = (side : Side) →
    lines_at side s.port list ≡ lines_at side s.port (lines_of text)

-- the system at this place sends for a list of submissions that has no fault: these are all of its
-- events, and it sends so early that a list of frames can hold each of them
pub record HasSent (t : Rows) (sender : ℕ) (s : SystemRow) (given : List (List ℕ))
    (events : List Event) : Type 0 where
  pub stands : slice_get t.systems sender ≡ Some s
  pub sound : HaveNoFault submissions given (length given)
  pub are_events : AreEventsOf s (links_from t.links sender)
      (items_of submissions given (length given)) events
  pub are_done : AreDone s (links_from t.links sender) events
  pub early : AllByRecursion (λ turn. turn.end ≤ latest_listed) (turns_in events)

-- of these submissions to a link, the messages whose UDP port a system has for the link
abbrev pub heard_of : Rows → ℕ → LinkRow → List Submission → List Message
heard_of t system l submissions =
    filter (λ m. has_port t.ports system l.vl m.udp) (map (λ s. s.message) submissions)

-- What a system is told of a link are the messages that the link took, of those to the system's UDP
-- ports: each once, in the order of their releases. So those of a sub-VL come in the order in which
-- they were taken, and all of them where the link has one sub-VL.
pub record AreToldAsTaken (t : Rows) (system : ℕ) (l : LinkRow) (taken : List Submission)
    (lines : List Line) : Type 0 where
  pub releases : List Release
  pub all : AreReleasesOfAll l taken releases
  pub told : reverse (messages_told system l.vl lines)
      ≡ heard_of t system l (submissions_of releases)
  pub of_one_sub : l.subs ≡ 1 →
      reverse (messages_told system l.vl lines) ≡ heard_of t system l taken

-- each receiver of each link that the system at this place sends is told what the link took
abbrev pub EachIsToldAsTaken : Rows → ℕ → List Event → List Line → Type 0
EachIsToldAsTaken t sender events lines =
    (system place : ℕ) (receiver : SystemRow) (l : LinkRow) →
    slice_get t.systems system ≡ Some receiver →
    slice_get t.links place ≡ Some l →
    l.from ≡ sender →
    is_to system l ≡ true →
    AreToldAsTaken t system l (taken_by l.vl events) lines

-- End to end: where a system's text is merged into a list without fault, whatever else the list
-- holds at other ports, the lines that a replay of it promises tell what the system's links took.
abbrev pub TakenIsToldOnce : Type 0
TakenIsToldOnce = (t : Rows) (list : List (List ℕ)) (lines : List Line) →
    IsLawful t → IsAdmitted t → AreSound list (length list) →
    EachIsToldOnce t (arrivals_of list (length list)) lines →
    (sender : ℕ) (s : SystemRow) (given : List (List ℕ)) (events : List Event) →
    HasSent t sender s given events → HoldsText s list (send_text s events) →
    EachIsToldAsTaken t sender events lines

-- What a system has sent is what `run_send` answers and writes, to an output that was empty.
abbrev pub WrittenIsSent : Type 0
WrittenIsSent = (t : Rows) (sender : ℕ) (s : SystemRow) (given text : List ℕ) (sends : Summary) →
    slice_get t.systems sender ≡ Some s →
    (sent : WritesAll (source_at t sender s) (lines_of given) (Some []) (Some text) sends) →
    AllByRecursion (λ turn. turn.end ≤ latest_listed) (turns_in sent.writes.events) →
    HasSent t sender s (lines_of given) sent.writes.events
    × (text ≡ send_text s sent.writes.events)

-- So the same is true of the two runs: of what `run_send` answers and writes, and of what `run`
-- answers and writes for a list that holds this text.
abbrev pub RunsTellTakenOnce : Type 0
RunsTellTakenOnce = (t : Rows) (sender : ℕ) (s : SystemRow) (given text bytes : List ℕ)
    (old new : Option (List ℕ)) (sends replays : Summary) →
    IsLawful t →
    IsAdmitted t →
    slice_get t.systems sender ≡ Some s →
    (sent : WritesAll (source_at t sender s) (lines_of given) (Some []) (Some text) sends) →
    AllByRecursion (λ turn. turn.end ≤ latest_listed) (turns_in sent.writes.events) →
    HoldsText s (lines_of bytes) text →
    (told : WritesPromised t (lines_of bytes) old new replays) →
    EachIsToldAsTaken t sender sent.writes.events told.promised.lines

-- A text of at most a million lines is itself such a list, which holds it.
abbrev pub TextsAreLists : Type 0
TextsAreLists = (t : Rows) (sender : ℕ) (s : SystemRow) (given : List (List ℕ))
    (events : List Event) →
    IsLawful t →
    IsAdmitted t →
    HasSent t sender s given events →
    length (lines_of (send_text s events)) ≤ most_lines →
    AreSound (lines_of (send_text s events)) (length (lines_of (send_text s events)))
