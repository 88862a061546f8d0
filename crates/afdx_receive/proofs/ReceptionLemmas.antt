use Rattle.std.proofs.Common.{◌≡◌, ℕ, ◌*◌, Bool, true, false, cond, None, Some, Result, Ok, Err}
use Rattle.std.proofs.Common.{List, ◌∷◌, eqb, nat_eq, refl, sym, ap, ◌∙◌}
use Rattle.std.proofs.lemmas.Bool.{eq-eqb, cond-true, cond-false}
use Rattle.afdx_frame.specs.declared.fault.MacFault.{MacFault}
use Rattle.afdx_frame.specs.declared.fault.IpFault.{IpFault}
use Rattle.afdx_frame.specs.Parts.{FrameParts, frame_of}
use Rattle.afdx_frame.specs.Carried.{Carried, carried_by}
use Rattle.afdx_frame.specs.Reading.{Reads}
use Rattle.afdx_config.specs.Rows.{Rows, LinkRow}
use Rattle.afdx_config.specs.Reading.{has_port}
use Rattle.afdx_receive.specs.Standing.{standing}
use Rattle.afdx_receive.specs.Answers.{Answer, Message, Dropped, subscription, answer_to_carried}
use Rattle.afdx_receive.specs.Answers.{answer_by, answer_after, answer_on, answer_to_frame}
use Rattle.afdx_receive.specs.Answers.{answer_to, at_ports}
use Rattle.afdx_receive.specs.Reception.{IsReceived, IsReadAs, IsAnswer}
use Rattle.afdx_receive.specs.declared.memory.Standing.{Standing}
use Rattle.afdx_receive.specs.declared.memory.Standing.TheVariants as stands
use Rattle.afdx_receive.specs.declared.reception.DropReason.TheVariants.{Mac, NotSubscribed}
use Rattle.afdx_receive.specs.declared.reception.DropReason.TheVariants.{Sequence, Redundant, Ip}
use Rattle.afdx_receive.specs.declared.reception.DropReason.TheVariants.{NoPort}
use Rattle.afdx_receive.specs.Arrivals.{Arrived, incoming, with_frame, frames_of}

-- ---- a link's frames of what arrived

pub frames_with : (x : Arrived) (past : List Arrived) (frame : FrameParts) (vl : ℕ) → frame_of x.bytes ≡ Ok frame →
    frames_of vl (x ∷ past) ≡ cond (eqb frame.link.0 vl) (incoming x frame ∷ frames_of vl past) (frames_of vl past)
unfolding frames_of
frames_with x past frame vl e = ap (λ (r : Result FrameParts MacFault). with_frame vl x r (frames_of vl past)) e

pub frames_own : (x : Arrived) (past : List Arrived) (frame : FrameParts) → frame_of x.bytes ≡ Ok frame →
    frames_of frame.link.0 (x ∷ past) ≡ incoming x frame ∷ frames_of frame.link.0 past
frames_own x past frame e =
    frames_with x past frame frame.link.0 e
    ∙ cond-true (eqb frame.link.0 frame.link.0) (incoming x frame ∷ frames_of frame.link.0 past)
    (frames_of frame.link.0 past) (eq-eqb frame.link.0 frame.link.0 refl)

pub frames_other : (x : Arrived) (past : List Arrived) (frame : FrameParts) (vl : ℕ)
    → frame_of x.bytes ≡ Ok frame → nat_eq frame.link.0 vl ≡ false →
    frames_of vl (x ∷ past) ≡ frames_of vl past
frames_other x past frame vl e apart =
    frames_with x past frame vl e
    ∙ cond-false (eqb frame.link.0 vl) (incoming x frame ∷ frames_of vl past)
    (frames_of vl past) apart

pub frames_damaged : (x : Arrived) (past : List Arrived) (fault : MacFault) (vl : ℕ) → frame_of x.bytes ≡ Err fault →
    frames_of vl (x ∷ past) ≡ frames_of vl past
unfolding frames_of
frames_damaged x past fault vl e = ap (λ (r : Result FrameParts MacFault). with_frame vl x r (frames_of vl past)) e

-- ---- answers

pub answer_damaged : (tables : Rows) (system : ℕ) (past : List Arrived) (x : Arrived)
    (fault : MacFault) → frame_of x.bytes ≡ Err fault →
    Dropped (Mac fault) ≡ answer_to tables system past x
unfolding answer_to
answer_damaged tables system past x fault e = sym (ap (answer_to_frame tables system past x) e)

pub answer_of_others : (tables : Rows) (system : ℕ) (past : List Arrived) (x : Arrived) (frame : FrameParts) →
    frame_of x.bytes ≡ Ok frame → subscription tables system frame.link.0 ≡ None
    → Dropped NotSubscribed ≡ answer_to tables system past x
unfolding answer_to
answer_of_others tables system past x frame e other =
    sym (ap (answer_to_frame tables system past x) e ∙ ap (answer_on tables system past x frame) other)

pub answer_received : (tables : Rows) (system : ℕ) (past : List Arrived) (x : Arrived)
    (frame : FrameParts) (link : LinkRow) (how : Standing) →
    frame_of x.bytes ≡ Ok frame → subscription tables system frame.link.0 ≡ Some link →
    standing (1000 * link.skew_us) (frames_of frame.link.0 past) (incoming x frame) ≡ how →
    answer_by how (answer_to_carried frame.link.0 (has_port tables.ports system frame.link.0)
    (carried_by x.bytes)) ≡ answer_to tables system past x
unfolding answer_to
answer_received tables system past x frame link how e subscribed stood =
    ap (λ (s : Standing). answer_by s
    (answer_to_carried frame.link.0 (has_port tables.ports system frame.link.0)
    (carried_by x.bytes))) (sym stood)
    ∙ sym (ap (answer_to_frame tables system past x) e ∙ ap (answer_on tables system past x frame) subscribed)

pub answer_own : (tables : Rows) (system : ℕ) (past : List Arrived) (x : Arrived)
    (frame : FrameParts) (link : LinkRow) → frame_of x.bytes ≡ Ok frame →
    subscription tables system frame.link.0 ≡ Some link →
    answer_to tables system past x
    ≡ answer_after (1000 * link.skew_us) (has_port tables.ports system frame.link.0)
    (frames_of frame.link.0 past)
    (incoming x frame)
unfolding answer_to
answer_own tables system past x frame link e subscribed =
    ap (answer_to_frame tables system past x) e ∙ ap (answer_on tables system past x frame) subscribed

pub answer_no_port : (vl : ℕ) (is_open : ℕ → Bool) (read : Result Carried IpFault)
    (carried : Carried) → read ≡ Ok carried → is_open carried.to_port ≡ false →
    Dropped NoPort ≡ answer_to_carried vl is_open read
answer_no_port vl is_open read carried e shut =
    sym (ap (answer_to_carried vl is_open) e
    ∙ cond-false (is_open carried.to_port) (Message vl carried.to_port carried.payload)
    (Dropped NoPort) shut)

pub answer_message : (vl : ℕ) (is_open : ℕ → Bool) (read : Result Carried IpFault)
    (carried : Carried) → read ≡ Ok carried → is_open carried.to_port ≡ true →
    Message vl carried.to_port carried.payload ≡ answer_to_carried vl is_open read
answer_message vl is_open read carried e open_port =
    sym (ap (answer_to_carried vl is_open) e
    ∙ cond-true (is_open carried.to_port) (Message vl carried.to_port carried.payload)
    (Dropped NoPort) open_port)

-- a datagram that is read is delivered if the system has its UDP port
pub message_read : (tables : Rows) (system : ℕ) (bytes : List ℕ) (frame : FrameParts) (carried : Carried)
    → Reads bytes frame carried → IsReadAs tables system bytes frame
    (at_ports tables system (Message frame.link.0 carried.to_port carried.payload))
message_read tables system bytes frame carried reads =
    by (has_port tables.ports system frame.link.0 carried.to_port) refl
  where
    by : (b : Bool) → has_port tables.ports system frame.link.0 carried.to_port ≡ b →
        IsReadAs tables system bytes frame
        (cond b (Message frame.link.0 carried.to_port carried.payload) (Dropped NoPort))
    by true e = (carried.from_port, refl, reads, e)
    by false e = (carried, reads, e)

-- what is made of a frame that won is the whole answer
pub read_right : (tables : Rows) (system : ℕ) (past : List Arrived) (x : Arrived)
    (frame : FrameParts) (answer : Answer) →
    IsReadAs tables system x.bytes frame answer
    → IsReceived tables system past x frame stands.Winner → IsAnswer tables system past x answer
read_right tables system past x frame (Message vl udp payload) read received = (frame, received, read)
read_right tables system past x frame (Dropped (Mac fault)) read received = absurd read
read_right tables system past x frame (Dropped NotSubscribed) read received = absurd read
read_right tables system past x frame (Dropped Sequence) read received = absurd read
read_right tables system past x frame (Dropped Redundant) read received = absurd read
read_right tables system past x frame (Dropped (Ip fault)) read received = (frame, received, read)
read_right tables system past x frame (Dropped NoPort) read received = (frame, received, read)
