-- Exactly once: the copies of a lawful stream are delivered once each.
use Rattle.std.proofs.Common.{◌≡◌, ℕ, zero, suc, ◌*◌, ◌^◌, ◌<◌, ◌≤◌, Bool, Some, Ok, Result, List}
use Rattle.std.proofs.Common.{[], ◌∷◌, length, ◌∙◌, ap, arith}
use Rattle.std.specs.Prelude.{IsTrue, slice_get, max, reverse, take, filter}
use Rattle.std.specs.Option.{option_map}
use Rattle.std.proofs.Math.ListN.{get_or}
use Rattle.std.proofs.lemmas.Option.{slice_get_within, slice_get-get_or}
use Rattle.afdx_frame.specs.declared.link.Side.{Side}
use Rattle.afdx_frame.specs.declared.link.Side.TheVariants.{A, B}
use Rattle.afdx_frame.specs.declared.fault.MacFault.{MacFault}
use Rattle.afdx_frame.specs.Regulation.{is_bag, bag, jitter}
use Rattle.afdx_frame.specs.Parts.{FrameParts, frame_of}
use Rattle.afdx_frame.specs.Carried.{carried_by}
use Rattle.afdx_frame.specs.Grammar.{Built, built_frame}
use Rattle.afdx_frame.specs.Reading.{IsTheFrame, BuiltIsComputed}
use Rattle.afdx_config.specs.Numbers.{after_steps}
use Rattle.afdx_config.specs.Rows.{SystemRow, LinkRow}
use Rattle.afdx_config.specs.Lawful.{IsLink}
use Rattle.afdx_config.specs.Flows.{regulation_of_link}
use Rattle.afdx_config.specs.SentList.{Message, Sent, address_of}
use Rattle.afdx_config.specs.LawfulStream.{Sending, IsSent, IsLawfulStream}
use Rattle.afdx_receive.specs.Integrity.{Incoming}
use Rattle.afdx_receive.specs.TwoStreams.{count_of, AreTwoStreams}
use Rattle.afdx_receive.specs.Delivery.{delivered, CarriesSent, AllCarrySent}
use Rattle.afdx_config.specs.LawfulStream.{copy_on}
use Rattle.afdx_receive.specs.Copies.{IsNextCopy, AreCopies}
use Rattle.afdx_config.proofs.NumberLemmas.{steps_low}
use Rattle.afdx_receive.proofs.CopyLemmas.{IsSpaced, near, soon}
use Rattle.afdx_receive.proofs.DeliveryLemmas.{delivered_once}

gap_some : (n : ℕ) → IsTrue (is_bag n) → 1 ≤ n
gap_some zero h = absurd (cc)
gap_some (suc n) h = omega arith

spaced : (s : SystemRow) (l : LinkRow) (messages : List Message) (stream : List Sending)
    (lawful : IsLawfulStream s l messages stream) →
    IsSpaced (bag (regulation_of_link l)) (jitter (regulation_of_link l)) lawful.moments stream
spaced s l messages stream lawful =
    record { counts = lawful.moment_count; apart = lawful.apart; shaped = lawful.shaped }

-- ---- what a copy carries

-- a copy has the number of its place, and carries the message that was sent there
record IsCopyOf (messages : List Message) (place : ℕ) (frame : Incoming) : Type 0 where
  pub number : frame.number ≡ after_steps place 0
  pub carries : CarriesSent messages place frame

built_copy : (s : SystemRow) (l : LinkRow) (x : Sent) (y : Sending) (side : Side) → IsSent s l x y →
    Built (address_of s l x.message) x.number side x.message.payload (copy_on side y)
built_copy s l x y A sent = sent.a
built_copy s l x y B sent = sent.b

same_parts : (p q : FrameParts) (bytes : List ℕ) → frame_of bytes ≡ Ok p → frame_of bytes ≡ Ok q → p.number ≡ q.number
same_parts p q bytes e f = ap (λ (r : FrameParts). r.number) (same (frame_of bytes) p q e f)
  where
    same : (r : Result FrameParts MacFault) (p q : FrameParts) → r ≡ Ok p → r ≡ Ok q → p ≡ q
    same r p q h k = cc

copy_of : BuiltIsComputed
    → (s : SystemRow) (l : LinkRow) (messages : List Message) (stream : List Sending)
    → IsLawfulStream s l messages stream →
    (latency : ℕ) (before : List Incoming) (frame : Incoming)
    → IsNextCopy latency stream before frame → IsCopyOf messages (count_of frame.side before) frame
copy_of computed s l messages stream lawful latency before frame copy =
    let place : ℕ = count_of frame.side before in
    let within : place < length stream = slice_get_within stream place copy.sending copy.at_place in
    let none : Message = record { udp = 0; payload = [] } in
    let m : Message = get_or messages place none in
    let at_place : slice_get messages place ≡ Some m =
    slice_get-get_or messages place none (omega (arith, within, lawful.message_count)) in
    let number : ℕ = after_steps place 0 in
    let low : number < 2 ^ 8 = omega (arith, steps_low place 0 (omega arith)) in
    let sent : IsSent s l (record { message = m; number = number }) copy.sending =
    lawful.sent place (record { message = m; number = number }) copy.sending
    (ap (option_map (λ (o : Message). record { message = o; number = number })) at_place) copy.at_place in
    let the : IsTheFrame (address_of s l m) number frame.side m.payload
    (built_frame (address_of s l m) number frame.side m.payload) =
    computed (address_of s l m) number frame.side m.payload
    (lawful.sendable place m at_place).buildable (lawful.sendable place m at_place).bytes low in
    let bytes : frame.bytes ≡ built_frame (address_of s l m) number frame.side m.payload =
    copy.bytes ∙ the.only_one (copy_on frame.side copy.sending)
    (built_copy s l (record { message = m; number = number }) copy.sending frame.side sent) in
    record {
      number = copy.number ∙ same_parts copy.parts _ frame.bytes copy.is_frame (ap frame_of bytes ∙ the.parts);
      carries = record {
        message = m;
        at_place = at_place;
        from_port = m.udp;
        carried = ap carried_by bytes ∙ the.carried;
      };
    }

-- ---- the whole

two_streams : BuiltIsComputed
    → (systems : ℕ) (s : SystemRow) (l : LinkRow) (messages : List Message) (stream : List Sending)
    → IsLink systems l →
    l.latency_us ≤ l.skew_us →
    IsLawfulStream s l messages stream → (came : List Incoming) → AreCopies (1000 * l.latency_us) stream came →
    AreTwoStreams (1000 * l.skew_us) came × AllCarrySent messages came
two_streams computed systems s l messages stream link fast lawful [] copies = (tt, tt)
two_streams computed systems s l messages stream link fast lawful (frame ∷ before) copies =
    let older = two_streams computed systems s l messages stream link fast lawful before copies.1 in
    let this = copy_of computed s l messages stream lawful (1000 * l.latency_us) before frame copies.0 in
    let moments = spaced s l messages stream lawful in
    let small : jitter (regulation_of_link l) ≤ bag (regulation_of_link l) = omega (arith, link.jitter_us.1) in
    let wide : 1000000 ≤ bag (regulation_of_link l) = omega (arith, gap_some l.bag_ms link.bag_ms) in
    let short : 1000 * l.latency_us ≤ 100000000 = omega (arith, link.latency_us.1) in
    let skew : 1000 * l.latency_us ≤ 1000 * l.skew_us = omega (arith, fast) in (
      (
        record {
          number = this.number;
          soon = soon (bag (regulation_of_link l)) (jitter (regulation_of_link l)) (1000 * l.latency_us)
              (1000 * l.skew_us) lawful.moments stream moments small skew before frame copies;
          near = near (bag (regulation_of_link l)) (jitter (regulation_of_link l))
              (1000 * l.latency_us) lawful.moments stream moments small short wide before frame copies;
        },
        older.0,
      ),
      (this.carries, older.1),
    )

pub stream_delivered_once : BuiltIsComputed
    → (systems : ℕ) (s : SystemRow) (l : LinkRow) (messages : List Message) (stream : List Sending)
    (is_open : ℕ → Bool)
    (came : List Incoming) →
    IsLink systems l → l.latency_us ≤ l.skew_us → IsLawfulStream s l messages stream
    → AreCopies (1000 * l.latency_us) stream came →
    reverse (delivered (1000 * l.skew_us) is_open came)
    ≡ filter (λ (m : Message). is_open m.udp)
    (take (max (count_of A came) (count_of B came)) messages)
stream_delivered_once computed systems s l messages stream is_open came link fast lawful copies =
    let both = two_streams computed systems s l messages stream link fast lawful came copies in
    delivered_once (1000 * l.skew_us) is_open messages came both.0 both.1
