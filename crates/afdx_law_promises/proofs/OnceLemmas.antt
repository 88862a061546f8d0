-- Exactly once: from the copies of a stream that come on both sides to the messages of a receiver, and at one switch.
use Rattle.std.proofs.Common.{◌≡◌, ℕ, suc, ◌*◌, ◌≤◌, Bool, true, false, not, eqb, List, [], ◌∷◌}
use Rattle.std.proofs.Common.{length, map, filter, take, refl, sym, ap, ◌∙◌, subst, arith}
use Rattle.std.specs.Prelude.{Result, Ok, Err, Some, IfSome, max, reverse, slice_get, if◌then◌else◌}
use Rattle.std.specs.List.{AllByRecursion}
use Rattle.std.proofs.Math.Seq.{take-length}
use Rattle.afdx_frame.specs.Parts.{FrameParts, frame_of}
use Rattle.afdx_frame.specs.Reading.{BuiltIsComputed}
use Rattle.afdx_frame.specs.declared.fault.MacFault.{MacFault}
use Rattle.afdx_frame.specs.declared.link.Side.{Side}
use Rattle.afdx_frame.specs.declared.link.Side.TheVariants.{A, B}
use Rattle.afdx_frame.specs.Sides.{is_side}
use Rattle.afdx_frame.proofs.ListLemmas.{AllByRecursion-slice_get}
use Rattle.afdx_config.specs.Lawful.{IsLink, IsLinkUpTo, IsBetweenSystems, IsLawfulSwitch, jitter_from_any}
use Rattle.afdx_config.proofs.AmongOthersLemmas.{link-alone}
use Rattle.afdx_config.specs.LawfulStream.{Sending, IsLawfulStream, copy_on}
use Rattle.afdx_config.specs.Reading.{has_port}
use Rattle.afdx_config.specs.Rows.{SystemRow, LinkRow, Rows, is_to}
use Rattle.afdx_config.specs.SentList.{Message}
use Rattle.afdx_police.specs.Arrival.{Arrival, own}
use Rattle.afdx_police.proofs.FrameLemmas.{IsFrameOn}
use Rattle.afdx_port.specs.Schedule.{Entry, Turn, AreTurns}
use Rattle.afdx_receive.specs.Arrivals.{Arrived, incoming, with_frame, frames_of}
use Rattle.afdx_receive.specs.Copies.{AreCopies}
use Rattle.afdx_receive.specs.Delivery.{delivered}
use Rattle.afdx_receive.specs.Integrity.{Incoming}
use Rattle.afdx_receive.specs.Redundancy.{newest}
use Rattle.afdx_receive.specs.TwoStreams.{count_of}
use Rattle.afdx_receive.proofs.OnceLemmas.{stream_delivered_once}
use Rattle.afdx_receive.proofs.StreamLemmas.{same_self}
use Rattle.afdx_switch.specs.Admitted.{IsAdmittedRun, Passing, passing, passing_in, accepted_on, frames_among}
use Rattle.afdx_switch.specs.Admitted.{slots, AreInTime}
use Rattle.afdx_switch.specs.HeldFrames.{HeldFrame}
use Rattle.afdx_switch.specs.Laws.{is_of}
use Rattle.afdx_switch.specs.Streams.{at_own_port, AreFirstOf, IsStreamOf}
use Rattle.afdx_switch.specs.Tables.{byte_ns_at, entries_at}
use Rattle.afdx_switch.proofs.StreamLemmas.{sending-is, accepted-stream}
use Rattle.afdx_network.specs.Events.{turns_at}
use Rattle.afdx_network.specs.Order.{side_number}
use Rattle.afdx_law_promises.specs.NetworkPromises.{MessagesComeSoFar, MessagesComeOnce}
use Rattle.afdx_law_promises.specs.Receptions.{brought, is_from, order_of, ComeInOrder, AreReceptions}
use Rattle.afdx_law_promises.specs.Receptions.{answers_on, messages_in}
use Rattle.afdx_law_promises.proofs.BroughtLemmas.{AreCopiesOn, AreLater, Copies, copies-by-slots, slots_of}
use Rattle.afdx_law_promises.proofs.ListLemmas.{all-imply}
use Rattle.afdx_law_promises.proofs.PortLemmas.{its-turns, in-time, left-back, entries_back}
use Rattle.afdx_law_promises.proofs.PromiseLemmas.{goes-there}
use Rattle.afdx_law_promises.proofs.ReceiverLemmas.{answers-own, messages-delivered, frames-by-side}

-- ---- both sides

-- frames that come in order of time
abbrev ComeInTime : List Incoming → Type 0
ComeInTime [] = Unit {0}
ComeInTime (frame ∷ before) = IfSome (newest before) (λ last. last.time ≤ frame.time) × ComeInTime before

first-by : (frame : Incoming) (before : List Incoming)
    → filter (λ f. is_side f.side frame.side) (frame ∷ before)
    ≡ frame ∷ filter (λ f. is_side f.side frame.side) before
first-by frame before = ap
    (λ b. if b then frame ∷ filter (λ f. is_side f.side frame.side) before else filter
    (λ f. is_side f.side frame.side) before) (same_self frame.side)

older-copies : (latency : ℕ) (stream : List Sending) (side : Side) (frame : Incoming) (before : List Incoming) →
    AreCopiesOn latency stream (filter (λ f. is_side f.side side) (frame ∷ before))
    → AreCopiesOn latency stream (filter (λ f. is_side f.side side) before)
older-copies latency stream side frame before are = drop_first (is_side frame.side side) are
  where
    drop_first : (b : Bool) →
        AreCopiesOn latency stream (if b then frame ∷ filter (λ f. is_side f.side side) before else
        filter (λ f. is_side f.side side) before) →
        AreCopiesOn latency stream (filter (λ f. is_side f.side side) before)
    drop_first true all = all.1
    drop_first false all = all

both-sides : (latency : ℕ) (stream : List Sending) (frames : List Incoming) → ComeInTime frames
    → ((side : Side) → AreCopiesOn latency stream (filter (λ f. is_side f.side side) frames))
    → AreCopies latency stream frames
both-sides latency stream [] order are = tt
both-sides latency stream (frame ∷ before) order are =
    let this = (subst (AreCopiesOn latency stream) (first-by frame before) (are frame.side)).0 in (
      record {
        sending = this.sending;
        at_place = this.at_place;
        bytes = this.bytes;
        parts = this.parts;
        is_frame = this.is_frame;
        number = this.number;
        sent_before = this.sent_before;
        in_time = this.in_time;
        in_order = order.0;
      },
      both-sides latency stream before order.1 (λ side. older-copies latency stream side frame before (are side)),
    )

-- ---- what comes in order

small : (side : Side) → side_number side ≤ 1
small A = omega arith
small B = omega arith

no-later : (x y : Arrived) → order_of y ≤ order_of x → y.time ≤ x.time
no-later x y le = let s = small x.side in omega (arith, le, s)

frames-before : (vl time : ℕ) (past : List Arrived) → AllByRecursion (λ y. y.time ≤ time) past
    → AllByRecursion (λ f. f.time ≤ time) (frames_of vl past)
unfolding frames_of
frames-before vl time [] all = tt
frames-before vl time (x ∷ past) all = joined (frame_of x.bytes) (frames-before vl time past all.1)
  where
    with_one : (b : Bool) (frame : FrameParts)
        → AllByRecursion (λ f. f.time ≤ time) (frames_of vl past)
        → AllByRecursion (λ f. f.time ≤ time)
        (if b then incoming x frame ∷ frames_of vl past else frames_of vl past)
    with_one true frame rest = (all.0, rest)
    with_one false frame rest = rest

    joined : (r : Result FrameParts MacFault)
        → AllByRecursion (λ f. f.time ≤ time) (frames_of vl past)
        → AllByRecursion (λ f. f.time ≤ time) (with_frame vl x r (frames_of vl past))
    joined (Err fault) rest = rest
    joined (Ok frame) rest = with_one (eqb frame.link.0 vl) frame rest

newest-before : (time : ℕ) (frames : List Incoming) → AllByRecursion (λ f. f.time ≤ time) frames
    → IfSome (newest frames) (λ last. last.time ≤ time)
newest-before time [] all = tt
newest-before time (frame ∷ before) all = all.0

frames-in-time : (vl : ℕ) (came : List Arrived) → ComeInOrder came → ComeInTime (frames_of vl came)
unfolding frames_of
frames-in-time vl [] order = tt
frames-in-time vl (x ∷ past) order = joined (frame_of x.bytes) (frames-in-time vl past order.1)
  where
    first : IfSome (newest (frames_of vl past)) (λ last. last.time ≤ x.time)
    first = newest-before x.time (frames_of vl past)
        (frames-before vl x.time past (all-imply (λ y. order_of y ≤ order_of x)
        (λ y. y.time ≤ x.time) past (no-later x) order.0))

    with_one : (b : Bool) (frame : FrameParts) → ComeInTime (frames_of vl past)
        → ComeInTime (if b then incoming x frame ∷ frames_of vl past else frames_of vl past)
    with_one true frame rest = (first, rest)
    with_one false frame rest = rest

    joined : (r : Result FrameParts MacFault) → ComeInTime (frames_of vl past)
        → ComeInTime (with_frame vl x r (frames_of vl past))
    joined (Err fault) rest = rest
    joined (Ok frame) rest = with_one (eqb frame.link.0 vl) frame rest

-- ---- from both sides to messages

-- a lawful stream of a link, whose copies come by a row like this one of the link, but within a latency of its own: it
-- is at most the skew
pub record IsStreamTo (l : LinkRow) (messages : List Message) (stream : List Sending) : Type 0 where
  pub sender : SystemRow
  pub row : LinkRow
  pub ends : ℕ
  pub link : IsLink ends row
  pub vl : row.vl ≡ l.vl
  pub skew : row.skew_us ≡ l.skew_us
  pub fast : row.latency_us ≤ row.skew_us
  pub lawful : IsLawfulStream sender row messages stream

module _ (computed : BuiltIsComputed) (t : Rows) (system place : ℕ) (l : LinkRow)
    (messages : List Message) (stream : List Sending) (lawful : IsLawfulSwitch t)
    (at : slice_get t.links place ≡ Some l) (goes : is_to system l ≡ true)
    (is : IsStreamTo l messages stream) where
  sent-frame : (side : Side) (k : ℕ) (y : Sending) → slice_get stream k ≡ Some y → IsFrameOn l.vl (copy_on side y)
  sent-frame side k y at_y = subst (λ vl. IsFrameOn vl (copy_on side y)) is.vl
      (sending-is computed is.sender is.row messages stream is.lawful side k y at_y).frame

  from-copies : (came : List Arrived) (counts : Side → ℕ) → ComeInOrder came
      → ((side : Side) → Copies (1000 * is.row.latency_us) stream (counts side)
      (filter (λ f. is_side f.side side) (frames_of l.vl came)))
      → reverse (messages_in (answers_on t system l.vl came))
      ≡ filter (λ m. has_port t.ports system l.vl m.udp) (take (max (counts A) (counts B)) messages)
  from-copies came counts order copies =
      let frames = frames_of l.vl came in
      let all = both-sides (1000 * is.row.latency_us) stream frames (frames-in-time l.vl came order)
      (λ side. (copies side).are) in
      ap (λ answers. reverse (messages_in answers)) (answers-own t system place l lawful at goes came)
      ∙ ap reverse (messages-delivered (1000 * l.skew_us) (has_port t.ports system l.vl) frames)
      ∙ ap (λ skew. reverse (delivered (1000 * skew) (has_port t.ports system l.vl) frames)) (sym is.skew)
      ∙ stream_delivered_once computed is.ends is.sender is.row messages stream
      (has_port t.ports system l.vl) frames is.link is.fast is.lawful all
      ∙ ap (λ n. filter (λ (m : Message). has_port t.ports system l.vl m.udp)
      (take (max n (count_of B frames)) messages)) (copies A).counted
      ∙ ap (λ n. filter (λ (m : Message). has_port t.ports system l.vl m.udp)
      (take (max (counts A) n) messages)) (copies B).counted

  -- where slots bring to the receiver, on each side, later copies of the stream's first frames
  pub from-slots : (came : List Arrived) (xs : Side → List Arrival) (turns : Side → List (Turn HeldFrame))
      → ComeInOrder came → ((side : Side) → filter (is_from side) came ≡ map (brought side) (slots (turns side)))
      → ((side : Side) → AreFirstOf side stream (xs side))
      → ((side : Side) → AreLater (1000 * is.row.latency_us) (xs side) (slots_of l.vl (turns side)))
      → reverse (messages_in (answers_on t system l.vl came))
      ≡ filter (λ m. has_port t.ports system l.vl m.udp) (take (max (length (xs A)) (length (xs B))) messages)
  from-slots came xs turns order by_side sent later =
      from-copies came (λ side. length (xs side)) order (λ side.
      subst (Copies (1000 * is.row.latency_us) stream (length (xs side)))
      (sym (frames-by-side l.vl side came ∙ ap (frames_of l.vl) (by_side side)))
      (copies-by-slots l.vl (1000 * is.row.latency_us) side stream (sent-frame side) (slots (turns side))
      (xs side) (sent side) (later side)))

-- ---- at one switch turns end within the latency

each-later : (l : LinkRow) (byte_ns : ℕ) (entries : List (Entry HeldFrame)) (turns : List (Turn HeldFrame))
    (xs : List Arrival) → AreTurns byte_ns entries turns → AreInTime l turns
    → frames_among l.vl (entries_back (slots turns)) ≡ map passing xs
    → AreLater (1000 * l.latency_us) xs (slots_of l.vl turns)
each-later l byte_ns entries [] [] are soon same = tt
each-later l byte_ns entries [] (x ∷ xs) are soon same = absurd (cc same)
each-later l byte_ns entries (s ∷ earlier) xs are soon same =
    by s.too_old same (λ ys rest. each-later l byte_ns entries earlier ys are.1
    (λ k d lt. soon (suc k) d (omega (arith, lt))) rest)
  where
    one : (ys : List Arrival) → is_of l.vl s.entry ≡ true
        → passing_in s.entry ∷ frames_among l.vl (entries_back (slots earlier)) ≡ map passing ys
        → ((zs : List Arrival) → frames_among l.vl (entries_back (slots earlier)) ≡ map passing zs
        → AreLater (1000 * l.latency_us) zs (slots_of l.vl earlier))
        → AreLater (1000 * l.latency_us) ys (s ∷ slots_of l.vl earlier)
    one [] own same rest = absurd (cc same)
    one (y ∷ ys) own same rest =
        let head : passing_in s.entry ≡ passing y = cc same in
        let time : s.entry.time ≡ y.time = ap (λ (p : Passing). p.time) head in
        let ends = (soon 0 s (omega arith) own).1 in (
          record {
            bytes = ap (λ (p : Passing). p.bytes) head;
            after = (let come = are.0.come in let lasts = are.0.lasts in omega (arith, time, come, lasts));
            within = omega (arith, time, ends);
          },
          rest ys (cc same),
        )

    slot : (c : Bool) → is_of l.vl s.entry ≡ c
        → map passing_in (if c then s.entry ∷ filter (is_of l.vl) (entries_back (slots earlier))
        else filter (is_of l.vl) (entries_back (slots earlier))) ≡ map passing xs
        → ((zs : List Arrival) → frames_among l.vl (entries_back (slots earlier)) ≡ map passing zs
        → AreLater (1000 * l.latency_us) zs (slots_of l.vl earlier))
        → AreLater (1000 * l.latency_us) xs (if c then s ∷ slots_of l.vl earlier else slots_of l.vl earlier)
    slot true own same rest = one xs own same rest
    slot false other same rest = rest xs same

    by : (b : Bool)
        → frames_among l.vl (entries_back (if not b then s ∷ slots earlier else slots earlier)) ≡ map passing xs
        → ((zs : List Arrival) → frames_among l.vl (entries_back (slots earlier)) ≡ map passing zs
        → AreLater (1000 * l.latency_us) zs (slots_of l.vl earlier))
        → AreLater (1000 * l.latency_us) xs
        (filter (λ z. is_of l.vl z.entry) (if not b then s ∷ slots earlier else slots earlier))
    by true same rest = rest xs same
    by false same rest = slot (is_of l.vl s.entry) refl same rest

-- ---- the law

module _ (computed : BuiltIsComputed) (t : Rows) (arrivals : List Arrival) (system place : ℕ)
    (s : SystemRow) (l : LinkRow) (messages : List Message) (stream : List Sending) (came : List Arrived)
    (run : IsAdmittedRun t arrivals) (stands : slice_get t.systems system ≡ Some s)
    (at : slice_get t.links place ≡ Some l) (goes : is_to system l ≡ true)
    (between : IsBetweenSystems t system l) (is : IsStreamOf t l messages stream)
    (sent : (side : Side) → AreFirstOf side stream (at_own_port t l side arrivals))
    (are : AreReceptions t s.port arrivals came) where
  accepted : (side : Side) → accepted_on t l side arrivals ≡ at_own_port t l side arrivals
  accepted side =
      (accepted-stream t is.sender l messages stream is.lawful computed side (own l.vl side arrivals)
      (sent side)).arrivals

  later-on : (side : Side)
      → AreLater (1000 * l.latency_us) (at_own_port t l side arrivals) (slots_of l.vl (turns_at t side s.port arrivals))
  later-on side =
      each-later l (byte_ns_at t s.port) (entries_at t side s.port arrivals) (turns_at t side s.port arrivals)
      (at_own_port t l side arrivals) (its-turns t side s.port arrivals run.timed).each_next
      (in-time t arrivals side s.port place l run at)
      (left-back t arrivals side s.port place l run at (goes-there t system s l run.lawful stands goes)
      ∙ ap (map passing) (accepted side))

  stream-to : IsStreamTo l messages stream
  stream-to = record {
    sender = is.sender;
    row = l;
    ends = length t.systems;
    link = link-alone (length t.systems) l
        (AllByRecursion-slice_get (IsLinkUpTo jitter_from_any (length t.systems)) t.links place l
        run.lawful.links.each at)
        (run.lawful.sent place l at between.from);
    vl = refl;
    skew = refl;
    fast = run.admitted.skews place l at;
    lawful = is.lawful;
  }

  pub come-so-far : reverse (messages_in (answers_on t system l.vl came))
      ≡ filter (λ m. has_port t.ports system l.vl m.udp)
      (take (max (length (at_own_port t l A arrivals)) (length (at_own_port t l B arrivals)))
      messages)
  unfolding stream-to
  come-so-far =
      from-slots computed t system place l messages stream run.lawful at goes stream-to came
      (λ side. at_own_port t l side arrivals) (λ side. turns_at t side s.port arrivals) are.in_order are.by_side
      sent later-on

pub messages-so-far : BuiltIsComputed → MessagesComeSoFar
messages-so-far computed t arrivals system place s l messages stream came run stands at goes between is sent
    are = come-so-far computed t arrivals system place s l messages stream came run stands at goes
    between is sent are

pub messages-once : BuiltIsComputed → MessagesComeOnce
messages-once computed t arrivals system place s l messages stream came run stands at goes between is fed are =
    let whole_a = (fed A).whole in
    let whole_b = (fed B).whole in
    let most : max (length (at_own_port t l A arrivals)) (length (at_own_port t l B arrivals))
    ≡ length messages = omega (arith, whole_a, whole_b, is.lawful.message_count) in
    come-so-far computed t arrivals system place s l messages stream came run stands at goes between is
    (λ side. (fed side).frames) are
    ∙ ap (λ n. filter (λ (m : Message). has_port t.ports system l.vl m.udp) (take n messages)) most
    ∙ ap (filter (λ (m : Message). has_port t.ports system l.vl m.udp)) (take-length messages)
