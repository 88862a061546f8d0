-- When an answer is right, in the words of the grammar.
use Rattle.std.specs.Prelude.{◌≡◌, ℕ, ◌*◌, true, false, None, Some, List}
use Rattle.afdx_frame.specs.Layout.{FrameFault}
use Rattle.afdx_frame.specs.Datagrams.{DatagramFault}
use Rattle.afdx_frame.specs.Grammar.{Read}
use Rattle.afdx_frame.specs.Parts.{FrameParts, IsFrameOf}
use Rattle.afdx_frame.specs.Carried.{Carried}
use Rattle.afdx_frame.specs.Reading.{Reads}
use Rattle.afdx_config.specs.Rows.{Rows, LinkRow}
use Rattle.afdx_config.specs.Reading.{has_port}
use Rattle.afdx_receive.specs.Standing.{standing}
use Rattle.afdx_receive.specs.Arrivals.{Arrived, incoming, frames_of}
use Rattle.afdx_receive.specs.Answers.{Answer, Message, Dropped, subscription}
use Rattle.afdx_receive.specs.declared.memory.Standing.{Standing}
use Rattle.afdx_receive.specs.declared.memory.Standing.TheVariants as stands
use Rattle.afdx_receive.specs.declared.reception.DropReason.TheVariants.{Mac, NotSubscribed}
use Rattle.afdx_receive.specs.declared.reception.DropReason.TheVariants.{Sequence, Redundant, Ip}
use Rattle.afdx_receive.specs.declared.reception.DropReason.TheVariants.{NoPort}

-- the bytes are a frame of a link that the system receives, and after that link's frames before it
-- stands so
pub record IsReceived (tables : Rows) (system : ℕ) (past : List Arrived) (x : Arrived)
    (frame : FrameParts) (how : Standing) : Type 0 where
  pub is_frame : IsFrameOf x.bytes frame
  pub link : LinkRow
  pub subscribed : subscription tables system frame.link.0 ≡ Some link
  pub stands : standing (1000 * link.skew_us) (frames_of frame.link.0 past) (incoming x frame) ≡ how

-- what is made of a frame that won: it is delivered if a datagram is read in it, to a UDP port that
-- the system has for its link
abbrev pub IsReadAs : Rows → ℕ → List ℕ → FrameParts → Answer → Type 0
IsReadAs tables system bytes frame (Message vl udp payload) =
    (from : ℕ) × (frame.link.0 ≡ vl) × Read bytes vl from udp payload frame.number
    × (has_port tables.ports system vl udp ≡ true)
IsReadAs tables system bytes frame (Dropped (Ip fault)) = DatagramFault frame.kind frame.body fault
IsReadAs tables system bytes frame (Dropped NoPort) =
    (carried : Carried) × Reads bytes frame carried
    × (has_port tables.ports system frame.link.0 carried.to_port ≡ false)
IsReadAs tables system bytes frame (Dropped why) = ⊥

-- the answer to what arrives at a system after what arrived before
abbrev pub IsAnswer : Rows → ℕ → List Arrived → Arrived → Answer → Type 0
IsAnswer tables system past x (Dropped (Mac fault)) = FrameFault x.bytes fault
IsAnswer tables system past x (Dropped NotSubscribed) =
    (frame : FrameParts) × IsFrameOf x.bytes frame
    × (subscription tables system frame.link.0 ≡ None)
IsAnswer tables system past x (Dropped Sequence) =
    (frame : FrameParts) × IsReceived tables system past x frame stands.OutOfSequence
IsAnswer tables system past x (Dropped Redundant) =
    (frame : FrameParts) × IsReceived tables system past x frame stands.Redundant
IsAnswer tables system past x answer =
    (frame : FrameParts) × IsReceived tables system past x frame stands.Winner
    × IsReadAs tables system x.bytes frame answer
