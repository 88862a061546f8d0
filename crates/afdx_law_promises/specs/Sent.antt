-- What the systems of a network send, as what arrives at its switches. Lists of turns and of
-- arrivals have the newest first.
use Rattle.std.specs.Prelude.{◌≡◌, ℕ, ◌==◌, ◌&&◌, true, if◌then◌else◌, Some, List, [], ◌∷◌, ◌++◌, filter, reverse, slice_get, take}
use Rattle.std.specs.List.{AllByRecursion}
use Rattle.afdx_frame.specs.Grammar.{built_frame}
use Rattle.afdx_frame.specs.declared.link.Side.{Side}
use Rattle.afdx_frame.specs.declared.link.Side.TheVariants.{A, B}
use Rattle.afdx_config.specs.Lawful.{IsBetweenSystems}
use Rattle.afdx_config.specs.LawfulStream.{Sending}
use Rattle.afdx_config.specs.Reading.{has_port}
use Rattle.afdx_config.specs.Rows.{SystemRow, LinkRow, Rows, is_to}
use Rattle.afdx_police.specs.Arrival.{Arrival, is_side}
use Rattle.afdx_port.specs.Schedule.{Turn}
use Rattle.afdx_config.specs.LawfulStream.{copy_on}
use Rattle.afdx_send.specs.Emissions.{AreSendings, own, sent_list}
use Rattle.afdx_send.specs.Frames.{Frame, address_with}
use Rattle.afdx_send.specs.Laws.{IsBuildable, EmitsLawfully}
use Rattle.afdx_send.specs.Sender.{SenderHistory}
use Rattle.afdx_law_promises.specs.Lines.{Line, messages_told}
use Rattle.afdx_law_promises.specs.Promises.{EachIsToldOnce, EachIsToldOnceSoFar, most_come}
use Rattle.afdx_switch.specs.Streams.{IsFed}

-- a system's frame on a network, and what it sends in a slot
abbrev pub frame_on : SystemRow → Side → Frame → List ℕ
frame_on s side f =
    built_frame (address_with s.id s.partition f) f.number side f.message.payload

abbrev pub sent_in : SystemRow → Turn Frame → Sending
sent_in s turn = record {
  time = turn.end;
  a = frame_on s A turn.entry.item;
  b =
      frame_on s B turn.entry.item;
}

-- what it sends of a link, the first one first
abbrev pub with_sent : List Sending → Sending → List Sending
with_sent stream y = stream ++ y ∷ []

unfoldable pub stream_of : SystemRow → ℕ → List (Turn Frame) → List Sending
stream_of s vl [] = []
stream_of s vl (turn ∷ earlier) =
    if turn.entry.item.vl == vl then with_sent (stream_of s vl earlier) (sent_in s turn)
    else stream_of s vl earlier

-- an arrival on a side is what was sent in a slot, when the slot ended
pub record IsSentAs (s : SystemRow) (side : Side) (turn : Turn Frame) (x : Arrival) : Type 0 where
  pub time : x.time ≡ turn.end
  pub bytes : x.bytes ≡ copy_on side (sent_in s turn)

-- these arrivals are what was sent in these slots, one for each, in order
abbrev pub AreSentAs : SystemRow → Side → List (Turn Frame) → List Arrival → Type 0
AreSentAs s side [] [] = Unit {0}
AreSentAs s side [] (x ∷ past) = ⊥
AreSentAs s side (turn ∷ earlier) [] = ⊥
AreSentAs s side (turn ∷ earlier) (x ∷ past) = IsSentAs s side turn x
    × AreSentAs s side earlier past

abbrev pub arrivals_at : Side → ℕ → List Arrival → List Arrival
arrivals_at side port arrivals = filter (λ x. is_side side x.side && (port == x.port)) arrivals

-- on both sides all that arrives at the port of a system is what it sent. So it is where the lists
-- of all systems are merged in any way that keeps the order of each
abbrev pub IsMerged : SystemRow → List (Turn Frame) → List Arrival → Type 0
IsMerged s emitted arrivals = (side : Side) →
    AreSentAs s side emitted (arrivals_at side s.port arrivals)

-- then both sides are fed with the stream of each of its links, whole
abbrev pub SentIsFed : Type 0
SentIsFed = (t : Rows) (arrivals : List Arrival) (s : SystemRow) (l : LinkRow)
    (emitted : List (Turn Frame)) →
    slice_get t.systems l.from ≡ Some s →
    AllByRecursion (IsBuildable s) emitted →
    IsMerged s emitted arrivals →
    (side : Side) →
    IsFed t l (stream_of s l.vl emitted) side arrivals

-- which are its sendings
abbrev pub StreamIsOfSendings : Type 0
StreamIsOfSendings = (s : SystemRow) (vl : ℕ) (emitted : List (Turn Frame)) →
    AllByRecursion (IsBuildable s) emitted → AreSendings s vl emitted (stream_of s vl emitted)

-- End to end: where a link's sender has emitted lawfully, and what arrives is what it emitted, the
-- M lines of each receiver of the link are exactly the released messages to its UDP ports, each
-- once and in order of their releases.
abbrev pub ReleasedAreToldOnce : Type 0
ReleasedAreToldOnce = (t : Rows) (arrivals : List Arrival) (lines : List Line) (h : SenderHistory)
    (system place at : ℕ) (s : SystemRow) (l : LinkRow) →
    EachIsToldOnce t arrivals lines →
    slice_get t.systems system ≡ Some s →
    slice_get t.links place
    ≡ Some l →
    is_to system l ≡ true →
    IsBetweenSystems t system l →
    slice_get t.systems l.from ≡ Some h.system →
    AllByRecursion (IsBuildable h.system) h.emitted →
    IsMerged h.system h.emitted arrivals →
    (e : EmitsLawfully h at l (stream_of h.system l.vl h.emitted)) →
    reverse (messages_told system l.vl lines)
    ≡ filter (λ m. has_port t.ports system l.vl m.udp) (sent_list (own at e.released))

-- A network may fail in the middle: on both sides what arrives at the port of a system is the first
-- of what it sent
abbrev pub IsMergedSoFar : SystemRow → List (Turn Frame) → List Arrival → Type 0
IsMergedSoFar s emitted arrivals = (side : Side) →
    (later : List (Turn Frame)) × (earlier : List (Turn Frame)) × (emitted ≡ later ++ earlier)
    × AreSentAs s side earlier (arrivals_at side s.port arrivals)

-- Then the released messages are told as far as one of the sides has come.
abbrev pub ReleasedAreToldSoFar : Type 0
ReleasedAreToldSoFar = (t : Rows) (arrivals : List Arrival) (lines : List Line) (h : SenderHistory)
    (system place at : ℕ) (s : SystemRow) (l : LinkRow) →
    EachIsToldOnceSoFar t arrivals lines →
    slice_get t.systems system ≡ Some s →
    slice_get t.links
    place ≡ Some l →
    is_to system l ≡ true →
    IsBetweenSystems t system l →
    slice_get t.systems l.from ≡ Some h.system →
    AllByRecursion (IsBuildable h.system) h.emitted →
    IsMergedSoFar h.system h.emitted arrivals →
    (e : EmitsLawfully h at l (stream_of h.system l.vl h.emitted)) →
    reverse (messages_told system l.vl lines)
    ≡ filter (λ m. has_port t.ports system l.vl m.udp)
    (take (most_come t l arrivals) (sent_list (own at e.released)))

-- So all of them are, where on one side all comes.
abbrev pub OneSideIsEnough : Type 0
OneSideIsEnough = (t : Rows) (arrivals : List Arrival) (h : SenderHistory) (at : ℕ) (l : LinkRow)
    (whole : Side) →
    slice_get t.systems l.from ≡ Some h.system →
    AllByRecursion (IsBuildable h.system) h.emitted →
    AreSentAs h.system whole h.emitted (arrivals_at whole h.system.port arrivals) →
    (e : EmitsLawfully h at l (stream_of h.system l.vl h.emitted)) →
    take (most_come t l arrivals) (sent_list (own at e.released)) ≡ sent_list (own at e.released)
