-- The right answer is the one that is computed.
use Rattle.std.proofs.Common.{◌≡◌, ℕ, ◌*◌, Bool, true, false, Option, None, Some, Result, Ok, Err}
use Rattle.std.proofs.Common.{List, refl, sym, ap, subst, ◌∙◌}
use Rattle.afdx_frame.specs.declared.fault.MacFault.{MacFault}
use Rattle.afdx_frame.specs.declared.fault.IpFault.{IpFault}
use Rattle.afdx_frame.specs.Sealing.{AreBytes}
use Rattle.afdx_frame.specs.Parts.{FrameParts, frame_of, IsFrameOf, FrameIsComputed}
use Rattle.afdx_frame.specs.Carried.{Carried, carried_by, DatagramIsComputed}
use Rattle.afdx_frame.specs.Reading.{ReadingIsComputed}
use Rattle.afdx_config.specs.Rows.{Rows, LinkRow}
use Rattle.afdx_config.specs.Reading.{has_port}
use Rattle.afdx_receive.specs.Standing.{standing}
use Rattle.afdx_receive.specs.Arrivals.{Arrived, incoming, frames_of}
use Rattle.afdx_receive.specs.Answers.{Answer, Message, Dropped, subscription, answer_to_carried, answer_to}
use Rattle.afdx_receive.specs.Reception.{IsReceived, IsReadAs, IsAnswer}
use Rattle.afdx_receive.specs.declared.memory.Standing.{Standing}
use Rattle.afdx_receive.specs.declared.memory.Standing.TheVariants as stands
use Rattle.afdx_receive.specs.declared.reception.DropReason.TheVariants.{Mac, NotSubscribed}
use Rattle.afdx_receive.specs.declared.reception.DropReason.TheVariants.{Sequence, Redundant, Ip}
use Rattle.afdx_receive.specs.declared.reception.DropReason.TheVariants.{NoPort}
use Rattle.afdx_receive.proofs.ReceptionLemmas.{answer_damaged, answer_of_others, answer_received}
use Rattle.afdx_receive.proofs.ReceptionLemmas.{answer_no_port, answer_message, read_right}

-- what is known of frames
pub record Known : Type 0 where
  pub frames : FrameIsComputed
  pub datagrams : DatagramIsComputed
  pub readings : ReadingIsComputed

-- what a frame that won is read as, and how that is computed
carried_as : Known → (tables : Rows) (system : ℕ) (bytes : List ℕ) (frame : FrameParts)
    → AreBytes bytes → IsFrameOf bytes frame → frame_of bytes ≡ Ok frame →
    IsReadAs tables system bytes frame
    (answer_to_carried frame.link.0 (has_port tables.ports system frame.link.0) (carried_by bytes))
carried_as known tables system bytes frame are-bytes is-frame computed = at (carried_by bytes) refl
  where
    by_port : (carried : Carried) (b : Bool) → carried_by bytes ≡ Ok carried
        → has_port tables.ports system frame.link.0 carried.to_port ≡ b →
        IsReadAs tables system bytes frame
        (answer_to_carried frame.link.0 (has_port tables.ports system frame.link.0)
        (carried_by bytes))
    by_port carried true e b =
        subst (λ (a : Answer). IsReadAs tables system bytes frame a)
        (answer_message frame.link.0 (has_port tables.ports system frame.link.0) (carried_by bytes) carried e b)
        (carried.from_port, refl, known.readings.computed bytes frame carried are-bytes computed e, b)
    by_port carried false e b =
        subst (λ (a : Answer). IsReadAs tables system bytes frame a)
        (answer_no_port frame.link.0 (has_port tables.ports system frame.link.0) (carried_by bytes) carried e b)
        (carried, known.readings.computed bytes frame carried are-bytes computed e, b)

    at : (read : Result Carried IpFault) → carried_by bytes ≡ read →
        IsReadAs tables system bytes frame
        (answer_to_carried frame.link.0 (has_port tables.ports system frame.link.0)
        (carried_by bytes))
    at (Ok carried) e = by_port carried (has_port tables.ports system frame.link.0 carried.to_port) e refl
    at (Err fault) e =
        subst (λ (a : Answer). IsReadAs tables system bytes frame a)
        (sym (ap (answer_to_carried frame.link.0 (has_port tables.ports system frame.link.0)) e))
        ((known.datagrams.fault bytes frame fault are-bytes is-frame).0 e)

pub computed_right : Known
    → (tables : Rows) (system : ℕ) (past : List Arrived) (x : Arrived) (answer : Answer)
    → AreBytes x.bytes →
    answer ≡ answer_to tables system past x → IsAnswer tables system past x answer
computed_right known tables system past x answer are-bytes h = at (frame_of x.bytes) refl
  where
    as_answer : (a : Answer) → a ≡ answer_to tables system past x → IsAnswer tables system past x a
        → IsAnswer tables system past x answer
    as_answer a e right = subst (λ (b : Answer). IsAnswer tables system past x b) (e ∙ sym h) right

    by_standing : (frame : FrameParts) (how : Standing) → frame_of x.bytes ≡ Ok frame
        → IsFrameOf x.bytes frame → IsReceived tables system past x frame how →
        IsAnswer tables system past x answer
    by_standing frame stands.OutOfSequence e is-frame received =
        as_answer (Dropped Sequence)
        (answer_received tables system past x frame received.link stands.OutOfSequence e
        received.subscribed received.stands)
        (frame, received)
    by_standing frame stands.Redundant e is-frame received =
        as_answer (Dropped Redundant)
        (answer_received tables system past x frame received.link stands.Redundant e
        received.subscribed received.stands)
        (frame, received)
    by_standing frame stands.Winner e is-frame received =
        as_answer (answer_to_carried frame.link.0 (has_port tables.ports system frame.link.0) (carried_by x.bytes))
        (answer_received tables system past x frame received.link stands.Winner e received.subscribed received.stands)
        (read_right tables system past x frame
        (answer_to_carried frame.link.0 (has_port tables.ports system frame.link.0)
        (carried_by x.bytes))
        (carried_as known tables system x.bytes frame are-bytes is-frame e) received)

    by_link : (frame : FrameParts) (o : Option LinkRow) → frame_of x.bytes ≡ Ok frame
        → IsFrameOf x.bytes frame → subscription tables system frame.link.0 ≡ o →
        IsAnswer tables system past x answer
    by_link frame None e is-frame other =
        as_answer (Dropped NotSubscribed) (answer_of_others tables system past x frame e other)
        (frame, is-frame, other)
    by_link frame (Some link) e is-frame subscribed =
        by_standing frame (standing (1000 * link.skew_us) (frames_of frame.link.0 past) (incoming x frame)) e is-frame
        (record { is_frame = is-frame; link = link; subscribed = subscribed; stands = refl })

    at : (read : Result FrameParts MacFault) → frame_of x.bytes ≡ read → IsAnswer tables system past x answer
    at (Ok frame) e = by_link frame (subscription tables system frame.link.0) e
        ((known.frames.frame x.bytes frame are-bytes).0 e) refl
    at (Err fault) e = as_answer (Dropped (Mac fault)) (answer_damaged tables system past x fault e)
        ((known.frames.fault x.bytes fault are-bytes).0 e)

pub right_computed : Known
    → (tables : Rows) (system : ℕ) (past : List Arrived) (x : Arrived) (answer : Answer)
    → AreBytes x.bytes →
    IsAnswer tables system past x answer → answer ≡ answer_to tables system past x
right_computed known tables system past x (Dropped (Mac fault)) are-bytes right =
    answer_damaged tables system past x fault ((known.frames.fault x.bytes fault are-bytes).1 right)
right_computed known tables system past x (Dropped NotSubscribed) are-bytes right =
    answer_of_others tables system past x right.0 ((known.frames.frame x.bytes right.0 are-bytes).1 right.1) right.2
right_computed known tables system past x (Dropped Sequence) are-bytes right =
    answer_received tables system past x right.0 right.1.link stands.OutOfSequence
    ((known.frames.frame x.bytes right.0 are-bytes).1 right.1.is_frame) right.1.subscribed right.1.stands
right_computed known tables system past x (Dropped Redundant) are-bytes right =
    answer_received tables system past x right.0 right.1.link stands.Redundant
    ((known.frames.frame x.bytes right.0 are-bytes).1 right.1.is_frame) right.1.subscribed right.1.stands
right_computed known tables system past x (Dropped (Ip fault)) are-bytes right =
    let frame : FrameParts = right.0 in
    let read : carried_by x.bytes ≡ Err fault =
    (known.datagrams.fault x.bytes frame fault are-bytes right.1.is_frame).1 right.2 in
    sym (ap (answer_to_carried frame.link.0 (has_port tables.ports system frame.link.0)) read)
    ∙ answer_received tables system past x frame right.1.link stands.Winner
    ((known.frames.frame x.bytes frame are-bytes).1 right.1.is_frame) right.1.subscribed right.1.stands
right_computed known tables system past x (Dropped NoPort) are-bytes right =
    let frame : FrameParts = right.0 in
    let carried : Carried = right.2.0 in
    let only = known.readings.only_one x.bytes frame.link.0 carried.from_port carried.to_port
    frame.number carried.payload are-bytes right.2.1 in
    answer_no_port frame.link.0 (has_port tables.ports system frame.link.0) (carried_by x.bytes)
    carried only.4 right.2.2
    ∙ answer_received tables system past x frame right.1.link stands.Winner
    ((known.frames.frame x.bytes frame are-bytes).1 right.1.is_frame) right.1.subscribed right.1.stands
right_computed known tables system past x (Message vl udp payload) are-bytes right =
    let frame : FrameParts = right.0 in
    let carried : Carried = record { from_port = right.2.0; to_port = udp; payload = payload } in
    let only = known.readings.only_one x.bytes vl carried.from_port udp frame.number payload are-bytes right.2.2 in
    let is_open : has_port tables.ports system frame.link.0 udp ≡ true =
    ap (λ (n : ℕ). has_port tables.ports system n udp) right.2.1 ∙ right.2.3 in
    ap (λ (n : ℕ). Message n udp payload) (sym right.2.1)
    ∙ answer_message frame.link.0 (has_port tables.ports system frame.link.0) (carried_by x.bytes)
    carried only.4 is_open
    ∙ answer_received tables system past x frame right.1.link stands.Winner
    ((known.frames.frame x.bytes frame are-bytes).1 right.1.is_frame) right.1.subscribed right.1.stands
