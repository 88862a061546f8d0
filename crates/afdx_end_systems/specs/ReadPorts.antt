-- The communication ports of a system that would put each message to its port and read it at once.
use Rattle.std.specs.Prelude.{◌≡◌, ℕ, ◌&&◌, nat_eq, Option, Some, None, List, [], ◌∷◌, is_some, position, slice_get, slice_set, if◌then◌else◌}
use Rattle.afdx_config.specs.Rows.{Rows}
use Rattle.afdx_config.specs.Lawful.{IsLawfulSwitch}
use Rattle.afdx_config.specs.Reading.{has_port}
use Rattle.afdx_receive.specs.Arrivals.{Arrived}
use Rattle.afdx_receive.specs.Answers.{Answer, Message, Dropped, answer_to}
use Rattle.afdx_comport.specs.Messages.{TimedMessage}
use Rattle.afdx_comport.specs.declared.com_ports.ComPort.{ComPort}
use Rattle.afdx_comport.specs.declared.held.PortMemory.{PortMemory}
use Rattle.afdx_comport.specs.declared.held.PortMemory.TheVariants.{Sampling, Queuing}
use Rattle.afdx_comport.specs.Calls.{Put, Take, GiveBack, held_after}
use Rattle.afdx_comport.specs.Held.{IsRead, read_of}
use Rattle.afdx_comport.specs.Ports.{is_for, ports_at_first}

-- all that came to these ports was read
abbrev pub AreRead : List ComPort → Type 0
AreRead ports = (place : ℕ) (port : ComPort) → slice_get ports place ≡ Some port → IsRead port.held

-- a port is found exactly where the tables have it
abbrev pub AreFound : Rows → ℕ → List ComPort → Type 0
AreFound rows system ports =
    (vl udp : ℕ) → is_some (position (is_for vl udp) ports) ≡ has_port rows.ports system vl udp

-- a message was put to the port at this place and taken out again, where it is a queue, and its
-- memory given back; every other port stayed as it was
pub record IsPassedOn (ports : List ComPort) (place : ℕ) (message : TimedMessage)
    (after : List ComPort) : Type 0 where
  pub here : (port : ComPort) →
      slice_get ports place ≡ Some port →
      (room : ℕ) × (slice_get after place ≡ Some (record port {
        held = held_after port.held (GiveBack room ∷ Take ∷ Put message ∷ []);
      }))
  pub others : (other : ℕ) → (other ≡ place → ⊥) → slice_get after other ≡ slice_get ports other

-- a message was put to the port of its link and UDP port, and read there at once: what was read are
-- its bytes
pub record IsReadBack (ports : List ComPort) (vl udp : ℕ) (message : TimedMessage)
    (after : List ComPort) : Type 0 where
  pub place : ℕ
  pub found : position (is_for vl udp) ports ≡ Some place
  pub passed : IsPassedOn ports place message after
  pub read : (port : ComPort) →
      slice_get ports place ≡ Some port →
      read_of (held_after port.held (Put message ∷ [])) ≡ Some message.bytes

-- what an answer at this time does to the ports of its system: a message is read back, and a frame
-- that is dropped leaves them as they were
abbrev pub ReadsBack : List ComPort → List ComPort → ℕ → Answer → Type 0
ReadsBack ports after time (Message vl udp payload) =
    IsReadBack ports vl udp (record { time = time; bytes = payload }) after
ReadsBack ports after time (Dropped why) = after ≡ ports

-- the message that an answer delivers to a UDP port of a link, else the one before
abbrev pub newer : ℕ → ℕ → ℕ → Answer → Option TimedMessage → Option TimedMessage
newer vl udp time (Message link to payload) before =
    if nat_eq link vl && nat_eq to udp
    then Some (record { time = time; bytes = payload })
    else before
newer vl udp time (Dropped why) before = before

-- of what arrived at a system, the newest message that was delivered to a UDP port of a link, and
-- when it came
unfoldable pub newest_to : Rows → ℕ → ℕ → ℕ → List Arrived → Option TimedMessage
newest_to rows system vl udp [] = None
newest_to rows system vl udp (x ∷ past) =
    newer vl udp x.time (answer_to rows system past x) (newest_to rows system vl udp past)

-- a sampling port holds this message; a queuing port holds none
abbrev pub HoldsNewest : Option TimedMessage → PortMemory → Type 0
HoldsNewest newest (Sampling sample) = sample ≡ newest
HoldsNewest newest (Queuing line) = line.messages ≡ []

-- each port that is found holds the newest message that was delivered to it
abbrev pub HoldNewest : Rows → ℕ → List Arrived → List ComPort → Type 0
HoldNewest rows system past ports = (vl udp place : ℕ) (port : ComPort) →
    position (is_for vl udp) ports ≡ Some place → slice_get ports place ≡ Some port →
    HoldsNewest (newest_to rows system vl udp past) port.held

-- a port that a message is put to, which is taken out again, where it is a queue, and whose memory
-- is given back
abbrev pub port_passed : TimedMessage → ComPort → ComPort
port_passed message port =
    record port {
      held = held_after port.held (GiveBack 0 ∷ Take ∷ Put message ∷ []);
    }

-- so at this place, where a port is
abbrev pub passed_to : TimedMessage → ℕ → List ComPort → Option ComPort → List ComPort
passed_to message place ports None = ports
passed_to message place ports (Some port) = slice_set ports place (port_passed message port)

abbrev pub passed_at : TimedMessage → List ComPort → Option ℕ → List ComPort
passed_at message ports None = ports
passed_at message ports (Some place) = passed_to message place ports (slice_get ports place)

-- the ports of a system that puts each message that it is answered to its port, and reads it there
-- at once
abbrev pub passed_on : ℕ → Answer → List ComPort → List ComPort
passed_on time (Message vl udp payload) ports =
    passed_at (record { time = time; bytes = payload }) ports (position (is_for vl udp) ports)
passed_on time (Dropped why) ports = ports

-- what they hold after what arrived
unfoldable pub ports_after : Rows → ℕ → List Arrived → List ComPort
ports_after rows system [] = ports_at_first system rows.ports
ports_after rows system (x ∷ past) =
    passed_on x.time (answer_to rows system past x) (ports_after rows system past)

-- Ports that every message is put to and read from at once: all of them were read, and are found
-- where the tables have them; each answer that is a message is what its port gives; and each
-- sampling port holds the newest, a queuing port none.
pub record ArePassedOn (rows : Rows) (system : ℕ) (past : List Arrived) : Type 0 where
  pub read : AreRead (ports_after rows system past)
  pub found : AreFound rows system (ports_after rows system past)
  pub back : (x : Arrived) →
      ReadsBack (ports_after rows system past) (ports_after rows system (x ∷ past)) x.time
      (answer_to rows system past x)
  pub newest : HoldNewest rows system past (ports_after rows system past)

abbrev pub MessagesArePassedOn : Type 0
MessagesArePassedOn = (rows : Rows) (system : ℕ) (past : List Arrived) → IsLawfulSwitch rows →
    ArePassedOn rows system past
