-- The ports of a system, in the order of the tables.
use Rattle.std.specs.Prelude.{◌≡◌, ℕ, Bool, ◌&&◌, nat_eq, None, Some, List, [], map, filter, position, slice_get}
use Rattle.std.specs.HashMap as hash
use Rattle.std.specs.HashMap.{HashMap}
use Rattle.afdx_frame.specs.declared.link.VlId.{VlId}
use Rattle.afdx_config.specs.Rows.{PortRow}
use Rattle.afdx_config.specs.declared.rows.Kind.{Kind}
use Rattle.afdx_config.specs.declared.rows.Kind.TheVariants as kind
use Rattle.afdx_comport.specs.declared.held.PortMemory.{PortMemory}
use Rattle.afdx_comport.specs.declared.held.PortMemory.TheVariants.{Sampling, Queuing}
use Rattle.afdx_comport.specs.declared.com_ports.ComPort.{ComPort}

-- a port of a kind and a depth that holds nothing
abbrev pub empty_of : Kind → ℕ → PortMemory
empty_of kind.Sampling depth = Sampling None
empty_of kind.Queuing depth = Queuing (record { depth = depth; messages = []; spare = None })

abbrev pub port_at_first : PortRow → ComPort
port_at_first row =
    record { link = record { 0 = row.link }; udp = row.udp; held = empty_of row.kind row.depth }

-- the ports of the system
abbrev pub ports_at_first : ℕ → List PortRow → List ComPort
ports_at_first system rows = map port_at_first (filter (λ row. nat_eq row.system system) rows)

-- whether a port is that of a link and a UDP port
abbrev pub is_for : ℕ → ℕ → ComPort → Bool
is_for link udp port = nat_eq port.link.0 link && nat_eq port.udp udp

abbrev pub is_same_key : VlId × ℕ → VlId × ℕ → Bool
is_same_key a b = nat_eq a.0.0 b.0.0 && nat_eq a.1 b.1

-- each key leads to the place of its port
abbrev pub PlacesAreOf : {S : Type 0} → HashMap (VlId × ℕ) ℕ S → List ComPort → Type 0
PlacesAreOf places ports = (key : VlId × ℕ) →
    hash.get is_same_key places key ≡ position (is_for key.0.0 key.1) ports

-- each port is found where it is
abbrev pub AreFound : List ComPort → Type 0
AreFound ports = (place : ℕ) (port : ComPort) → slice_get ports place ≡ Some port →
    position (is_for port.link.0 port.udp) ports ≡ Some place
