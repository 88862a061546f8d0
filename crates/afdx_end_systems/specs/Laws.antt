-- Laws over the definitions.
use Rattle.std.specs.Prelude.{◌≡◌, ℕ, ◌*◌, ◌≤◌, max, filter, reverse, take, ◌==◌, ◌&&◌, Bool, false, nat_eq, Some, Ok, Err, Result, List, [], ◌∷◌, if◌then◌else◌}
use Rattle.afdx_frame.specs.declared.fault.MacFault.{MacFault}
use Rattle.afdx_frame.specs.Parts.{FrameParts, frame_of}
use Rattle.afdx_frame.specs.declared.link.Side.TheVariants.{A, B}
use Rattle.afdx_config.specs.Rows.{Rows, SystemRow, LinkRow}
use Rattle.afdx_config.specs.Lawful.{IsLink}
use Rattle.afdx_config.specs.LawfulStream.{Sending, IsLawfulStream}
use Rattle.afdx_config.specs.Reading.{has_port, listener_at}
use Rattle.afdx_receive.specs.Arrivals.{incoming}
use Rattle.afdx_config.specs.SentList as sent
use Rattle.afdx_receive.specs.TwoStreams.{count_of}
use Rattle.afdx_receive.specs.Copies.{AreCopies}
use Rattle.afdx_receive.specs.Delivery.{with_answer, delivered}
use Rattle.afdx_receive.specs.Answers.{Answer, Message, Dropped, answer_after, subscription}
use Rattle.afdx_receive.specs.declared.reception.DropReason.{DropReason}
use Rattle.afdx_receive.specs.declared.reception.DropReason.TheVariants.{Sequence, Redundant, Ip, NoPort}
use Rattle.afdx_end_systems.specs.Handovers.{HandedOver, arrival_of, came_to, frames_to}
use Rattle.afdx_end_systems.specs.Receptions.{answer_at, answer_line, is_message, name_of, reception_line, is_delivered}

-- the frame that is handed over is one of this link
abbrev pub is_of : ℕ → Result FrameParts MacFault → Bool
is_of vl (Ok frame) = nat_eq frame.link.0 vl
is_of vl (Err fault) = false

-- of the frames that were handed over, those of a link at a port
unfoldable pub own : ℕ → ℕ → List HandedOver → List HandedOver
own port vl [] = []
own port vl (d ∷ before) =
    if d.port == port && is_of vl (frame_of d.bytes)
    then d ∷ own port vl before
    else own port vl before

-- a frame of a link that its system receives
pub record IsReceivable (rows : Rows) (d : HandedOver) : Type 0 where
  pub system : ℕ
  pub at : listener_at rows d.port ≡ Some system
  pub frame : FrameParts
  pub is_frame : frame_of d.bytes ≡ Ok frame
  pub link : LinkRow
  pub subscribed : subscription rows system frame.link.0 ≡ Some link

-- What is told of a frame comes from the frames of the same link at the same port alone, whatever
-- else was handed over.
pub record ReceptionIsOwn : Type 0 where
  pub line : (rows : Rows) (before : List HandedOver) (d : HandedOver) (frame : FrameParts) →
      frame_of d.bytes ≡ Ok frame →
      reception_line rows before d ≡ reception_line rows (own d.port frame.link.0 before) d
  pub delivered : (rows : Rows) (before : List HandedOver) (d : HandedOver) (frame : FrameParts) →
      frame_of d.bytes ≡ Ok frame →
      is_delivered rows before d ≡ is_delivered rows (own d.port frame.link.0 before) d
  pub frames : (port vl : ℕ) (before : List HandedOver) →
      frames_to port vl before ≡ frames_to port vl (own port vl before)

-- The answer is that of the integrity and redundancy rules to the link's frames there.
abbrev pub ReceptionIsByTheRules : Type 0
ReceptionIsByTheRules =
    (rows : Rows) (before : List HandedOver) (d : HandedOver) (is : IsReceivable rows d) →
    let vl = is.frame.link.0 in
    let answer = answer_after (1000 * is.link.skew_us) (has_port rows.ports is.system vl)
    (frames_to d.port vl before) (incoming (arrival_of d) is.frame) in
    (reception_line rows before d ≡ answer_line d.time d.line (name_of rows is.system) answer)
    × (is_delivered rows before d ≡ is_message answer)

-- the messages of a link that the system at a port delivers, the newest first
unfoldable pub messages_at : Rows → ℕ → ℕ → ℕ → List HandedOver → List sent.Message
messages_at rows system port vl [] = []
messages_at rows system port vl (d ∷ before) =
    if d.port == port && is_of vl (frame_of d.bytes)
    then with_answer (answer_at rows (came_to port before) d system)
    (messages_at rows system port vl before)
    else messages_at rows system port vl before

-- They are those that the rules deliver of the link's frames there.
abbrev pub MessagesAreDelivered : Type 0
MessagesAreDelivered = (rows : Rows) (system port vl : ℕ) (link : LinkRow) (all : List HandedOver) →
    subscription rows system vl ≡ Some link →
    messages_at rows system port vl all
    ≡ delivered (1000 * link.skew_us) (has_port rows.ports system vl) (frames_to port vl all)

-- Of a link's lawful stream, whose copies come to a port by each network in order and in time,
-- exactly the messages to an open UDP port are delivered there, each once and in order, whatever
-- else is handed over.
abbrev pub StreamIsToldOnce : Type 0
StreamIsToldOnce =
    (rows : Rows) (system port systems : ℕ) (s : SystemRow) (link : LinkRow)
    (messages : List sent.Message) (stream : List Sending) (all : List HandedOver) →
    subscription rows system link.vl ≡ Some link →
    IsLink systems link →
    link.latency_us ≤ link.skew_us →
    IsLawfulStream s link messages stream →
    AreCopies (1000 * link.latency_us) stream (frames_to port link.vl all) →
    reverse (messages_at rows system port link.vl all)
    ≡ filter (λ m. has_port rows.ports system link.vl m.udp)
    (take (max (count_of A (frames_to port link.vl all)) (count_of B (frames_to port link.vl all)))
    messages)

-- why a frame of a link that the system receives can be dropped
abbrev pub IsLinkReason : DropReason → Type 0
IsLinkReason Sequence = Unit {0}
IsLinkReason Redundant = Unit {0}
IsLinkReason (Ip fault) = Unit {0}
IsLinkReason NoPort = Unit {0}
IsLinkReason why = ⊥

abbrev pub IsMessageOrLinkReason : Answer → Type 0
IsMessageOrLinkReason (Message vl udp payload) = Unit {0}
IsMessageOrLinkReason (Dropped why) = IsLinkReason why

-- Such a frame is a message, or dropped for one of these reasons.
abbrev pub DropsHaveLinkReasons : Type 0
DropsHaveLinkReasons =
    (rows : Rows) (before : List HandedOver) (d : HandedOver) (is : IsReceivable rows d) →
    IsMessageOrLinkReason (answer_at rows (came_to d.port before) d is.system)
