-- What a sender that keeps only what is still to be sent has to do with all that it took and
-- emitted.
use Rattle.std.specs.Prelude.{◌≡◌, ℕ, ◌+◌, ◌<◌, ◌≤◌, ◌⊎◌, map, List, [], ◌∷◌, ◌++◌, length, sum_by, replicate, Option, Some, None, true, slice_get, slice_set}
use Rattle.std.specs.List.{AllByRecursion}
use Rattle.afdx_frame.specs.declared.link.Priority.TheVariants.{Low}
use Rattle.afdx_frame.specs.declared.link.Side.TheVariants.{A, B}
use Rattle.afdx_frame.specs.Flows.{Flow}
use Rattle.afdx_frame.specs.Grammar.{built_frame}
use Rattle.afdx_frame.specs.Lengths.{frame_overhead}
use Rattle.afdx_frame.specs.Layout.{identifier_count}
use Rattle.afdx_frame.specs.Regulation.{jitter}
use Rattle.afdx_config.specs.Flows.{regulation_of_link}
use Rattle.afdx_config.specs.LawfulStream.{Sending}
use Rattle.afdx_config.specs.Admission.{byte_ns, links_from}
use Rattle.afdx_config.specs.Lawful.{IsSystem, IsLink, AreDistinct}
use Rattle.afdx_config.specs.Rows.{SystemRow, LinkRow, Rows}
use Rattle.afdx_law_bounds.specs.Sender.{IsSender, one_of_each, sender_buffer}
use Rattle.afdx_law_bounds.specs.Tables.{sent_flow}
use Rattle.afdx_port.specs.History as port
use Rattle.afdx_port.specs.Held as held
use Rattle.afdx_port.specs.Schedule.{Turn, IsSchedule}
use Rattle.afdx_port.specs.Times.{drain_end}
use Rattle.afdx_port.specs.declared.left.Left.{Left}
use Rattle.afdx_send.specs.declared.fault.SendFault.{SendFault}
use Rattle.afdx_send.specs.declared.fault.SendFault.TheVariants.{NotMyLink, NoSuchSub, Empty, TooLarge, QueueFull, Memory}
use Rattle.afdx_send.specs.declared.line.SystemLink.{SystemLink}
use Rattle.afdx_send.specs.declared.sender.Emission.{Emission}
use Rattle.afdx_send.specs.declared.sender_state.SenderState.{SenderState}
use Rattle.afdx_send.specs.Agenda.{NoneBefore, IsPlayed, nexts}
use Rattle.afdx_send.specs.Emissions.{LinkRelease, own, own_submissions, AreAllReleases, AreReleasedBefore, entries_of, IsNextEmission, IsSending}
use Rattle.afdx_send.specs.Frames.{Frame, IsReadAs, facts, address_with}
use Rattle.afdx_send.specs.Lines.{LineStands, held_by}
use Rattle.afdx_send.specs.Regulator.{next_time_of}
use Rattle.afdx_send.specs.Releases.{Submission, has_release, count_without, queue_limit}

-- the calls of a sender so far: its system, the links that it sends in the order of the tables,
-- what each link took, the emissions, the latest first, and the last time used
pub record SenderHistory : Type 0 where
  pub system : SystemRow
  pub links : List LinkRow
  pub taken : List (List Submission)
  pub emitted : List (Turn Frame)
  pub time : ℕ

-- a new sender's
abbrev pub no_calls : Rows → ℕ → SystemRow → SenderHistory
no_calls t place s = record {
  system = s;
  links = links_from t.links place;
  taken = replicate (length (links_from t.links place)) [];
  emitted = [];
  time = 0;
}

-- after a call that takes and emits nothing
abbrev pub at : SenderHistory → ℕ → SenderHistory
at h t = record {
  system = h.system;
  links = h.links;
  taken = h.taken;
  emitted = h.emitted;
  time = t;
}

-- after a submission to the link at this place
abbrev pub with_submission : SenderHistory → ℕ → Submission → SenderHistory
with_submission h place s = record {
  system = h.system;
  links = h.links;
  taken = slice_set h.taken place (own_submissions h.taken place ++ s ∷ []);
  emitted = h.emitted;
  time = s.time;
}

-- after an emission
abbrev pub with_emission : SenderHistory → Turn Frame → ℕ → SenderHistory
with_emission h s until = record {
  system = h.system;
  links = h.links;
  taken = h.taken;
  emitted = s ∷ h.emitted;
  time = until;
}

-- a message for a sub-VL
abbrev pub submission : ℕ → ℕ → ℕ → List ℕ → Submission
submission time sub udp payload = record {
  time = time;
  sub = sub;
  message = record { udp = udp; payload = payload };
}

-- the slot is that of the next emission
abbrev pub IsNextIn : SenderHistory → Turn Frame → Type 0
IsNextIn h s = IsNextEmission (byte_ns h.system) h.links h.taken h.emitted s

-- the system's links, as its own port sees them
abbrev pub flows_of : SystemRow → List LinkRow → List Flow
flows_of s links = map (sent_flow (byte_ns s) Low links) links

-- when each link's next release is
abbrev pub nexts_of : SenderState → List (Option ℕ)
nexts_of w = map (λ l. next_time_of l.regulator) w.lines.items

-- how many messages are not released yet
abbrev pub messages_held : SenderState → ℕ
messages_held w = sum_by (λ l. held_by l.regulator) w.lines.items

abbrev pub ready_count : Option (Left Frame) → ℕ
ready_count None = 0
ready_count (Some left) = 1

-- how many messages the sender holds
abbrev pub frames_held : SenderState → ℕ
frames_held w = messages_held w + held.frames_held w.output + ready_count w.ready

-- one message more
pub record HoldsMore (old new : SenderState) : Type 0 where
  pub more : frames_held new ≡ frames_held old + 1

-- or as many
pub record HoldsSame (old new : SenderState) : Type 0 where
  pub same : frames_held new ≡ frames_held old

abbrev pub last_time : SenderState → ℕ
last_time w = w.clock

-- the slots that the port gave are the emissions, and that of the frame that is ready
abbrev pub HasGiven : Option (Left Frame) → List (Turn Frame) → List (Turn Frame) → Type 0
HasGiven None emitted given = given ≡ emitted
HasGiven (Some left) emitted given = (s : Turn Frame) × (given ≡ s ∷ emitted)
    × (left ≡ port.left_of s)

-- the place of the link with this identifier, or none if no link has it
abbrev pub IsPlaceOf : List LinkRow → ℕ → Option ℕ → Type 0
IsPlaceOf links vl None = (i : ℕ) (l : LinkRow) → slice_get links i ≡ Some l → l.vl ≡ vl → ⊥
IsPlaceOf links vl (Some place) = (l : LinkRow) × (slice_get links place ≡ Some l) × (l.vl ≡ vl)

-- a sender of this system can have these links
pub record AreSent (s : SystemRow) (links : List LinkRow) : Type 0 where
  pub system : (profile : ℕ) × IsSystem profile s
  pub is_sender : IsSender (byte_ns s) Low (flows_of s links)
  pub lawful : (i : ℕ) (l : LinkRow) → slice_get links i ≡ Some l → (n : ℕ) × IsLink n l
  pub distinct : AreDistinct (λ l. l.vl) links
  pub jitters : (i : ℕ) (l : LinkRow) →
      slice_get links i ≡ Some l →
      one_of_each (byte_ns s) (flows_of s links) ≤ jitter (regulation_of_link l)

-- the port's calls
abbrev pub port_history : SenderHistory → List LinkRelease → List (Turn Frame) → ℕ →
    port.PortHistory Frame
port_history h released given time = record {
  byte_ns = byte_ns h.system;
  buffer = sender_buffer;
  entries = entries_of released;
  taken = given;
  time = time;
}

-- the sender is what these calls leave
pub record StandsFor (w : SenderState) (h : SenderHistory) : Type 0 where
  pub system_id : w.system_id ≡ h.system.id
  pub partition : w.partition ≡ h.system.partition
  pub clock : w.clock ≡ h.time
  pub are_sent : AreSent h.system h.links
  pub place_count : length w.places.items ≡ identifier_count
  pub places : (vl : ℕ) (place : Option ℕ) →
      slice_get w.places.items vl ≡ Some place →
      IsPlaceOf h.links vl place
  pub released : List LinkRelease
  pub are_releases : AreAllReleases h.links h.taken released
  pub before : AllByRecursion (λ x. x.release.time < h.time) released
  pub count : length w.lines.items ≡ length h.links
  pub lists : length h.taken ≡ length h.links
  pub lines : (i : ℕ) (line : SystemLink) (l : LinkRow) →
      slice_get w.lines.items i ≡ Some line →
      slice_get h.links i ≡ Some l →
      LineStands line l (own_submissions h.taken i) (own i released)
  pub come : (i place : ℕ) (s : Submission) →
      slice_get (own_submissions h.taken i) place ≡ Some s →
      s.time ≤ h.time
  pub played : IsPlayed w.agenda
  pub agenda : nexts w.agenda ≡ nexts_of w
  pub agenda_count : w.agenda.count ≡ length w.lines.items
  pub given : List (Turn Frame)
  pub has_given : HasGiven w.ready h.emitted given
  -- what is ready left by the last time used
  pub in_time : (left : Left Frame) → w.ready ≡ Some left → left.end ≤ w.output.clock
  pub output : port.StandsFor facts w.output (port_history h released given w.output.clock)
  -- no release is left that the port is past, and the port isn't past the last time used
  pub timely : NoneBefore (nexts_of w) w.output.clock
  pub port_clock : w.output.clock ≤ h.time

-- what is true of every sender
abbrev pub IsSenderSound : SenderState → Type 0
IsSenderSound w = (h : SenderHistory) × StandsFor w h

-- no emission that ends at or before t is left
abbrev pub IsQuiet : SenderState → ℕ → Type 0
IsQuiet w t = (h : SenderHistory) × StandsFor w h × ((s : Turn Frame) → IsNextIn h s → t < s.end)

-- nothing that is released before the last time used is left to enter the port, and the port gives
-- nothing by then
pub record IsIdle (w : SenderState) : Type 0 where
  pub ready : w.ready ≡ None
  pub quiet : held.IsQuiet facts w.output w.clock
  pub none : NoneBefore (nexts_of w) w.clock

-- where it says that it is idle, it is, before the end of the drain
pub record KnowsIdle (w : SenderState) : Type 0 where
  pub idle : w.is_idle ≡ true → IsIdle w
  pub soon : w.is_idle ≡ true → w.clock < drain_end

-- an emission as what is sent
abbrev pub sending_of : Emission → Sending
sending_of e = record { time = e.time; a = e.a.items; b = e.b.items }

-- the next emission ends at or before `until`, and is given
pub record Gives (h : SenderHistory) (until : ℕ) (e : Emission) (new : SenderState) : Type 0 where
  pub slot : Turn Frame
  pub next : IsNextIn h slot
  pub in_time : slot.end ≤ until
  pub time : e.time ≡ slot.end
  pub vl : e.vl.0 ≡ slot.entry.item.vl
  pub a : e.a.items ≡
      built_frame (address_with h.system.id h.system.partition slot.entry.item)
      slot.entry.item.number A slot.entry.item.message.payload
  pub b : e.b.items ≡
      built_frame (address_with h.system.id h.system.partition slot.entry.item)
      slot.entry.item.number B slot.entry.item.message.payload
  pub a_read : IsReadAs e.a.items slot.entry.item
  pub b_read : IsReadAs e.b.items slot.entry.item
  pub sending : IsSending h.system.id h.system.partition slot.end slot.entry.item (sending_of e)
  pub stands : StandsFor new (with_emission h slot until)

-- nothing is left: each message that was taken is released, and each release has had its slot
pub record AreAllEmitted (h : SenderHistory) : Type 0 where
  pub released : List LinkRelease
  pub are_releases : AreAllReleases h.links h.taken released
  pub all_released : (i place : ℕ) (l : LinkRow) →
      slice_get h.links i ≡ Some l →
      place < length (own_submissions h.taken i) →
      has_release (own i released) place ≡ true
  pub schedule : IsSchedule (byte_ns h.system) (entries_of released) h.emitted

-- the link with this identifier
abbrev pub HasLink : SenderHistory → ℕ → ℕ → LinkRow → Type 0
HasLink h vl place l = (slice_get h.links place ≡ Some l) × (l.vl ≡ vl)

abbrev pub IsSub : LinkRow → ℕ → Type 0
IsSub l sub = (1 ≤ sub) × (sub ≤ l.subs)

-- so many messages of the sub-VL of the link at this place aren't released before t
abbrev pub AreUnreleased : SenderHistory → ℕ → ℕ → ℕ → ℕ → Type 0
AreUnreleased h t place sub n = (released : List LinkRelease)
    × AreReleasedBefore h.links h.taken t released ×
    (count_without (own place released) sub 0 (own_submissions h.taken place) ≡ n)

-- the link at this place, with this identifier, takes a message of n bytes for its sub-VL s at t
pub record LinkTakes (h : SenderHistory) (t place vl s n : ℕ) : Type 0 where
  pub row : LinkRow
  pub link : HasLink h vl place row
  pub sub : IsSub row s
  pub some : 1 ≤ n
  pub fits : n + frame_overhead ≤ row.lmax
  pub count : ℕ
  pub unreleased : AreUnreleased h t place s count
  pub room : count < queue_limit

-- why a message of n bytes isn't taken at t: the first of these that is true. Memory is wanted only
-- for a message that a link takes
abbrev pub IsRefused : SenderHistory → ℕ → ℕ → ℕ → ℕ → SendFault → Type 0
IsRefused h t vl sub n NotMyLink = (i : ℕ) (l : LinkRow) → slice_get h.links i ≡ Some l →
    l.vl ≡ vl → ⊥
IsRefused h t vl sub n NoSuchSub = (i : ℕ) × (l : LinkRow) × HasLink h vl i l
    × ((sub ≡ 0) ⊎ (l.subs < sub))
IsRefused h t vl sub n Empty = (i : ℕ) × (l : LinkRow) × HasLink h vl i l × IsSub l sub × (n ≡ 0)
IsRefused h t vl sub n TooLarge = (i : ℕ) × (l : LinkRow) × HasLink h vl i l × IsSub l sub
    × (1 ≤ n) × (l.lmax < n + frame_overhead)
IsRefused h t vl sub n QueueFull = (i : ℕ) × (l : LinkRow) × HasLink h vl i l × IsSub l sub
    × (1 ≤ n) × (n + frame_overhead ≤ l.lmax) ×
    ((count : ℕ) × AreUnreleased h t i sub count × (queue_limit ≤ count))
IsRefused h t vl sub n Memory = (place : ℕ) × LinkTakes h t place vl sub n

-- a message is taken by the link at this place
abbrev pub IsTaken : SenderHistory → ℕ → ℕ → Submission → Type 0
IsTaken h place vl m = LinkTakes h m.time place vl m.sub (length m.message.payload)
