-- What a receiver answers, as a function of what arrived before and of the bytes that arrive.
use Rattle.std.specs.Prelude.{ℕ, ◌*◌, ◌&&◌, Bool, true, false, nat_eq, Option, None, Some, Result}
use Rattle.std.specs.Prelude.{Ok, Err, List, find, if◌then◌else◌}
use Rattle.afdx_frame.specs.declared.fault.MacFault.{MacFault}
use Rattle.afdx_frame.specs.declared.fault.IpFault.{IpFault}
use Rattle.afdx_frame.specs.Parts.{FrameParts, frame_of}
use Rattle.afdx_frame.specs.Carried.{Carried, carried_by}
use Rattle.afdx_config.specs.Rows.{Rows, LinkRow, is_to}
use Rattle.afdx_config.specs.Reading.{has_port}
use Rattle.afdx_receive.specs.Integrity.{Incoming}
use Rattle.afdx_receive.specs.Standing.{standing}
use Rattle.afdx_receive.specs.Arrivals.{Arrived, incoming, frames_of}
use Rattle.afdx_receive.specs.declared.memory.Standing.{Standing}
use Rattle.afdx_receive.specs.declared.memory.Standing.TheVariants as stands
use Rattle.afdx_receive.specs.declared.reception.DropReason.{DropReason}
use Rattle.afdx_receive.specs.declared.reception.DropReason.TheVariants.{Mac, NotSubscribed}
use Rattle.afdx_receive.specs.declared.reception.DropReason.TheVariants.{Sequence, Redundant, Ip}
use Rattle.afdx_receive.specs.declared.reception.DropReason.TheVariants.{NoPort}
use Rattle.afdx_receive.specs.declared.reception.Reception.{Reception}
use Rattle.afdx_receive.specs.declared.reception.Reception.TheVariants as reception

-- a message of a link to a UDP port, with its payload, or the reason for which the bytes are
-- dropped
pub data Answer : Type 0 where
  Message : ℕ → ℕ → List ℕ → Answer
  Dropped : DropReason → Answer

-- what a reception tells
abbrev pub answer_of : Reception → Answer
answer_of (reception.Message vl udp bytes) = Message vl.0 udp bytes.now
answer_of (reception.Dropped why) = Dropped why

-- the bytes are no frame, or a frame of a link that the system doesn't receive
abbrev pub is_ignored : Answer → Bool
is_ignored (Dropped (Mac fault)) = true
is_ignored (Dropped NotSubscribed) = true
is_ignored answer = false

-- to a frame that won, from what it carries, and the test whether the system has a UDP port for its
-- link
abbrev pub answer_to_carried : ℕ → (ℕ → Bool) → Result Carried IpFault → Answer
answer_to_carried vl is_open (Ok carried) =
    if is_open carried.to_port then Message vl carried.to_port carried.payload else Dropped NoPort
answer_to_carried vl is_open (Err fault) = Dropped (Ip fault)

-- an answer once it is known which UDP ports the system has: a message to another one is dropped
abbrev pub at_ports : Rows → ℕ → Answer → Answer
at_ports tables system (Message vl udp payload) =
    if has_port tables.ports system vl udp then Message vl udp payload else Dropped NoPort
at_ports tables system (Dropped why) = Dropped why

-- to a frame, by how it stands
abbrev pub answer_by : Standing → Answer → Answer
answer_by stands.Winner read = read
answer_by stands.OutOfSequence read = Dropped Sequence
answer_by stands.Redundant read = Dropped Redundant

-- to a frame of a link that the system receives, from that link's frames before it alone
abbrev pub answer_after : ℕ → (ℕ → Bool) → List Incoming → Incoming → Answer
answer_after skew is_open before frame =
    answer_by (standing skew before frame)
    (answer_to_carried frame.vl is_open (carried_by frame.bytes))

-- the link of an identifier that goes to the system
abbrev pub subscription : Rows → ℕ → ℕ → Option LinkRow
subscription tables system vl = find (λ link. nat_eq link.vl vl && is_to system link) tables.links

-- to a frame, if the system receives its link
abbrev pub answer_on : Rows → ℕ → List Arrived → Arrived → FrameParts → Option LinkRow → Answer
answer_on tables system past x frame None = Dropped NotSubscribed
answer_on tables system past x frame (Some link) =
    answer_after (1000 * link.skew_us) (has_port tables.ports system frame.link.0)
    (frames_of frame.link.0 past) (incoming x frame)

-- to bytes that are a frame, or not
abbrev pub answer_to_frame : Rows → ℕ → List Arrived → Arrived → Result FrameParts MacFault → Answer
answer_to_frame tables system past x (Ok frame) =
    answer_on tables system past x frame (subscription tables system frame.link.0)
answer_to_frame tables system past x (Err fault) = Dropped (Mac fault)

-- to what arrives at a system after what arrived before
unfoldable pub answer_to : Rows → ℕ → List Arrived → Arrived → Answer
answer_to tables system past x = answer_to_frame tables system past x (frame_of x.bytes)
