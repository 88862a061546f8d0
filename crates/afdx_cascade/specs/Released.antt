-- What the systems of an admitted cascade send, as their receivers are told it. Lists have the
-- latest first, a way the last switch.
use Rattle.std.specs.Prelude.{◌≡◌, ℕ, Some, List, slice_get, take}
use Rattle.std.specs.List.{AllByRecursion}
use Rattle.afdx_frame.specs.declared.link.Side.{Side}
use Rattle.afdx_config.specs.SentList.{Message}
use Rattle.afdx_config.specs.Switches.{NamedRows}
use Rattle.afdx_admit.specs.Cascade.{RowAt}
use Rattle.afdx_send.specs.Emissions.{own, sent_list}
use Rattle.afdx_send.specs.Laws.{IsBuildable, EmitsLawfully}
use Rattle.afdx_send.specs.Sender.{SenderHistory}
use Rattle.afdx_law_promises.specs.Sent.{AreSentAs, IsMerged, IsMergedSoFar, arrivals_at, stream_of}
use Rattle.afdx_cascade.specs.EndToEnd.{begins_at}
use Rattle.afdx_cascade.specs.Plans.{tables_of}
use Rattle.afdx_cascade.specs.Receivers.{EachIsHeardOnce, EachIsHeardOnceSoFar, IsWayToSystem}
use Rattle.afdx_cascade.specs.Receivers.{heard_by, lines_of, messages_at, most_sent}
use Rattle.afdx_cascade.specs.SwitchEvents.{SwitchEvent, came_to}

-- the system that sends a link at its first switch has emitted so; the link has this place among
-- those that it sends
pub record HasEmitted (switches : List NamedRows) (first : RowAt) (h : SenderHistory)
    (at : ℕ) : Type 0 where
  pub stands : slice_get (tables_of switches first.switch).systems first.row.from
      ≡ Some h.system
  pub buildable : AllByRecursion (IsBuildable h.system) h.emitted
  pub lawfully : EmitsLawfully h at first.row (stream_of h.system first.row.vl h.emitted)

-- the messages that the link released, in the order of their releases
abbrev pub released_of : (switches : List NamedRows) (first : RowAt) (h : SenderHistory) (at : ℕ) →
    HasEmitted switches first h at → List Message
released_of switches first h at e = sent_list (own at e.lawfully.released)

-- Where all that comes at its port of the first switch is what it emitted, each receiver, at
-- whichever switch, is told just the released messages to its UDP ports, each once and in order.
abbrev pub ReleasedComeOnce : Type 0
ReleasedComeOnce =
    (switches : List NamedRows) (so_far : List SwitchEvent) (r : RowAt) (before : List RowAt)
    (system at : ℕ) (h : SenderHistory) →
    EachIsHeardOnce switches so_far →
    IsWayToSystem switches r before system →
    (e : HasEmitted switches (begins_at r before) h at) →
    IsMerged h.system h.emitted (came_to (begins_at r before).switch so_far) →
    messages_at system r (lines_of switches so_far r.switch)
    ≡ heard_by switches system r (released_of switches (begins_at r before) h at e)

-- Where on each side only the first of it comes, they are told as far as one side has come.
abbrev pub ReleasedComeSoFar : Type 0
ReleasedComeSoFar =
    (switches : List NamedRows) (so_far : List SwitchEvent) (r : RowAt) (before : List RowAt)
    (system at : ℕ) (h : SenderHistory) →
    EachIsHeardOnceSoFar switches so_far →
    IsWayToSystem switches r before system →
    (e : HasEmitted switches (begins_at r before) h at) →
    IsMergedSoFar h.system h.emitted (came_to (begins_at r before).switch so_far) →
    messages_at system r (lines_of switches so_far r.switch)
    ≡ heard_by switches system r
    (take (most_sent switches so_far (begins_at r before))
    (released_of switches (begins_at r before) h at e))

-- So all of them are, where on one side all comes.
abbrev pub OneSideBringsAll : Type 0
OneSideBringsAll =
    (switches : List NamedRows) (so_far : List SwitchEvent) (r : RowAt) (before : List RowAt)
    (system at : ℕ) (h : SenderHistory) (whole : Side) →
    EachIsHeardOnceSoFar switches so_far →
    IsWayToSystem switches r before system →
    (e : HasEmitted switches (begins_at r before) h at) →
    IsMergedSoFar h.system h.emitted (came_to (begins_at r before).switch so_far) →
    AreSentAs h.system whole h.emitted
    (arrivals_at whole h.system.port (came_to (begins_at r before).switch so_far)) →
    messages_at system r (lines_of switches so_far r.switch)
    ≡ heard_by switches system r (released_of switches (begins_at r before) h at e)
