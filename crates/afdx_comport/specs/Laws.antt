-- What a system relies on that puts each message to its port and reads it at once.
use Rattle.std.specs.Prelude.{◌≡◌, ℕ, false, Some, List, is_some, position, slice_get, slice_set}
use Rattle.std.specs.List.{AllByRecursion}
use Rattle.afdx_config.specs.Rows.{LinkRow, PortRow}
use Rattle.afdx_config.specs.Reading.{has_port}
use Rattle.afdx_config.specs.Lawful.{IsPort}
use Rattle.afdx_comport.specs.declared.held.PortMemory.{PortMemory}
use Rattle.afdx_comport.specs.declared.com_ports.ComPort.{ComPort}
use Rattle.afdx_comport.specs.Held.{is_full, with_message, without_first, read_of, IsRead}
use Rattle.afdx_comport.specs.Ports.{ports_at_first, is_for}

-- a port of which all was read takes a message, which is what is read next; then all was read again
pub record IsPutAndRead (held : PortMemory) (time : ℕ) (bytes : List ℕ) : Type 0 where
  pub room : is_full held ≡ false
  pub read : read_of (with_message time bytes held) ≡ Some bytes
  pub all : IsRead (without_first (with_message time bytes held))

abbrev pub PutIsReadBack : Type 0
PutIsReadBack =
    (held : PortMemory) (time : ℕ) (bytes : List ℕ) → IsRead held → IsPutAndRead held time bytes

-- a new system's ports have nothing to read
abbrev pub AllIsReadAtFirst : Type 0
AllIsReadAtFirst = (systems system : ℕ) (links : List LinkRow) (rows : List PortRow) →
    AllByRecursion (IsPort systems links) rows →
    AllByRecursion (λ port. IsRead port.held) (ports_at_first system rows)

-- a port is found exactly where the tables have it
abbrev pub FoundIsConfigured : Type 0
FoundIsConfigured = (rows : List PortRow) (system link udp : ℕ) →
    is_some (position (is_for link udp) (ports_at_first system rows))
    ≡ has_port rows system link udp

-- what a port holds doesn't change where a port is found
abbrev pub FoundStays : Type 0
FoundStays = (ports : List ComPort) (place link udp : ℕ) (port : ComPort) (held : PortMemory) →
    slice_get ports place ≡ Some port →
    position (is_for link udp) (slice_set ports place (record port { held = held }))
    ≡ position (is_for link udp) ports
