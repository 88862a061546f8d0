-- What a receiver is after what arrived, and what it makes of what arrives next.
use Rattle.std.specs.Prelude.{◌≡◌, ℕ, ◌*◌, Bool, ◌&&◌, nat_eq, Option, None, Some, List, ◌∷◌}
use Rattle.std.specs.HashSet as bag
use Rattle.std.specs.HashSet.{HashSet}
use Rattle.afdx_frame.specs.declared.link.VlId.{VlId}
use Rattle.afdx_config.specs.Rows.{Rows, LinkRow}
use Rattle.afdx_config.specs.Reading.{has_port}
use Rattle.afdx_receive.specs.Arrivals.{Arrived, frames_of}
use Rattle.afdx_receive.specs.Answers.{Answer, subscription, answer_to, at_ports}
use Rattle.afdx_receive.specs.Reception.{IsAnswer}
use Rattle.afdx_receive.specs.Kept.{Kept, memory_at}
use Rattle.afdx_receive.specs.Memory.{Remembers}
use Rattle.afdx_receive.specs.declared.link_receiver.LinkReceiver.{LinkReceiver}
use Rattle.afdx_receive.specs.declared.memory.LinkMemory.{LinkMemory}
use Rattle.afdx_receive.specs.declared.receiver.Endpoint.{Endpoint}
use Rattle.afdx_receive.specs.declared.receiver.Receiver.{Receiver}

abbrev pub is_same_link : VlId → VlId → Bool
is_same_link a b = nat_eq a.0 b.0

abbrev pub is_same_endpoint : Endpoint → Endpoint → Bool
is_same_endpoint a b = is_same_link a.link b.link && nat_eq a.udp b.udp

-- what is kept of a link to begin with
abbrev pub memory_at_first : LinkRow → LinkMemory
memory_at_first link =
    record {
      skew_ns = 1000 * link.skew_us;
      won = 0;
      winner = None;
      previous = record { a = None; b = None };
      vl = record { 0 = link.vl };
    }

-- what is kept of a link: nothing if the system doesn't receive it, else what its own frames leave
abbrev pub LinkStandsFor : Rows → ℕ → List Arrived → ℕ → Option LinkMemory → Type 0
LinkStandsFor tables system past vl None = subscription tables system vl ≡ None
LinkStandsFor tables system past vl (Some memory) =
    (link : LinkRow) × (subscription tables system vl ≡ Some link)
    × (memory.skew_ns ≡ 1000 * link.skew_us)
    × Remembers memory (frames_of vl past)

-- each link's memory stands for its own frames
abbrev pub LinksStandFor : Rows → ℕ → List Arrived → Kept → Type 0
LinksStandFor tables system past links =
    (vl : ℕ) → LinkStandsFor tables system past vl (memory_at links vl)

-- a receiver of the system's links, after what arrived
pub record HasReceived (tables : Rows) (system : ℕ) (past : List Arrived)
    (receiver : LinkReceiver) : Type 0 where
  pub links : LinksStandFor tables system past receiver.links

-- the ports of the system
abbrev pub PortsStandFor : {S : Type 0} → Rows → ℕ → HashSet Endpoint S → Type 0
PortsStandFor tables system ports = (to : Endpoint) →
    bag.contains is_same_endpoint ports to ≡ has_port tables.ports system to.link.0 to.udp

-- a receiver of the system, after what arrived
pub record StandsFor (tables : Rows) (system : ℕ) (receiver : Receiver)
    (past : List Arrived) : Type 0 where
  pub links : HasReceived tables system past receiver.links
  pub ports : PortsStandFor tables system receiver.ports

-- what arrives after what arrived before has this answer, which is computed and right, and joins
-- what arrived
pub record Receives (tables : Rows) (system : ℕ) (past : List Arrived) (x : Arrived)
    (answer : Answer) (new : Receiver) : Type 0 where
  pub computed : answer ≡ answer_to tables system past x
  pub right : IsAnswer tables system past x answer
  pub stands : StandsFor tables system new (x ∷ past)

-- the same of a receiver of links: its answer is computed and right once it is known which UDP
-- ports the system has
pub record Selects (tables : Rows) (system : ℕ) (past : List Arrived) (x : Arrived)
    (answer : Answer) (new : LinkReceiver) : Type 0 where
  pub computed : at_ports tables system answer ≡ answer_to tables system past x
  pub right : IsAnswer tables system past x (at_ports tables system answer)
  pub stands : HasReceived tables system (x ∷ past) new
