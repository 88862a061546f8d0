-- What a frame's bytes say of where it came in, by its source address.
use Rattle.std.specs.Prelude.{ℕ, Bool, true, false, ◌≡◌, ◌+◌, ◌*◌, ◌==◌, ◌&&◌, List, [], ◌∷◌}
use Rattle.std.specs.Prelude.{drop, Option, Some, None, option_and_then, slice_get}
use Rattle.std.specs.Prelude.{if◌then◌else◌, map, option_map, take}
use Rattle.std.specs.Prelude.{Vec}
use Rattle.std.specs.Option.{option_or}
use Rattle.std.specs.declared.alloc.Global.{Global}
use Rattle.afdx_frame.specs.declared.link.Side.{Side}
use Rattle.afdx_frame.specs.declared.link.Side.TheVariants.{A, B}
use Rattle.afdx_config.specs.Admission.{byte_ns}
use Rattle.afdx_config.specs.Rows.{Rows, SystemRow}
use Rattle.afdx_config.specs.Switches.{NamedRows}
use Rattle.afdx_config.specs.declared.describing.Described.{Described}
use Rattle.afdx_config.specs.declared.describing.Described.TheVariants as described
use Rattle.afdx_input_sources.specs.Places.{entry_at}
use Rattle.afdx_input_sources.specs.declared.places.TapPort.{TapPort}
use Rattle.afdx_input_sources.specs.Tables.{known}
use Rattle.afdx_input_sources.specs.declared.senders.SystemPorts.{SystemPorts}
use Rattle.afdx_input_sources.specs.declared.senders.SystemPorts.TheVariants.{One, BySender}
use Rattle.afdx_input_sources.specs.declared.senders.UnsaidPort.{UnsaidPort}
use Rattle.afdx_input_sources.specs.declared.senders.UnsaidPort.TheVariants as unsaid

-- the number of a system in bytes with which a source address begins: 02 00 00, then the number
abbrev pub number_in : List ℕ → Option ℕ
number_in (x ∷ y ∷ z ∷ high ∷ low ∷ rest) =
    if x == 2 && y == 0 && z == 0 then Some (high * 256 + low) else None
number_in _ = None

-- that in a frame, where the source address stands behind six bytes
unfoldable pub sender_of : List ℕ → Option ℕ
sender_of bytes = number_in (drop 6 bytes)

-- the network of a source address that ends in this byte
abbrev pub side_named : ℕ → Option Side
side_named last = if last == 0x20 then Some A else if last == 0x40 then Some B else None

-- the network that the source address names by its last byte
unfoldable pub side_claimed : List ℕ → Option Side
side_claimed bytes = option_and_then side_named (slice_get bytes 11)

-- where a frame came in that no option says it of, if that is known, and whether its bytes claim
-- it; and how long a byte lasts on the line of each port of a switch, in ns, if a system has it
pub record Ports : Type 0 where
  pub are_claimed : Bool
  pub entry : List ℕ → Option TapPort
  pub byte_ns : (switch port : ℕ) → Option ℕ

-- all at this port of one switch, of which no more is known
abbrev pub one_port : ℕ → Ports
one_port port = record {
  are_claimed = false;
  entry = λ bytes. Some (entry_at 0 port);
  byte_ns = λ switch at. None;
}

-- a value of the first system that has this key
abbrev pub of_system : (key value : SystemRow → ℕ) → List SystemRow → ℕ → Option ℕ
of_system key value [] n = None
of_system key value (s ∷ systems) n =
    if key s == n then Some (value s) else of_system key value systems n

-- the systems of a switch, without its neighbours
abbrev pub own_systems : Rows → List SystemRow
own_systems t = take t.own t.systems

-- the port of the system that has this number
abbrev pub port_of_system : List SystemRow → ℕ → Option ℕ
port_of_system systems number = of_system (λ s. s.id) (λ s. s.port) systems number

-- the ns of a byte on the line of the system at this port
abbrev pub byte_ns_at : List SystemRow → ℕ → Option ℕ
byte_ns_at systems port = of_system (λ s. s.port) byte_ns systems port

-- where the system stands that has this number, of these at a switch and else of some others
abbrev pub entry_among : ℕ → List SystemRow → ℕ → (other : Option TapPort) → Option TapPort
entry_among at systems number other =
    option_or (option_map (entry_at at) (port_of_system systems number)) other

-- where the first system of all switches stands that has this number; the first switch is `at`
unfoldable pub entry_from : ℕ → List Rows → ℕ → Option TapPort
entry_from at [] number = None
entry_from at (t ∷ switches) number =
    entry_among at (own_systems t) number (entry_from (at + 1) switches number)

-- the ns of a byte on the line of the system at this port of a switch
abbrev pub byte_ns_of : List Rows → ℕ → ℕ → Option ℕ
byte_ns_of switches switch port =
    option_and_then (λ t. byte_ns_at (own_systems t) port) (slice_get switches switch)

-- tables of times, one for each switch, say the same
abbrev pub time_in : List (Vec (Option ℕ) Global) → ℕ → ℕ → Option ℕ
time_in tables switch port =
    option_and_then (λ times. known (slice_get times.items port)) (slice_get tables switch)

abbrev pub HaveTimes : List (Vec (Option ℕ) Global) → List Rows → Type 0
HaveTimes tables switches =
    (switch port : ℕ) → time_in tables switch port ≡ byte_ns_of switches switch port

-- that of the system, of all of these switches, that the frame's source address names
abbrev pub ports_among : List Rows → Ports
ports_among switches = record {
  are_claimed = true;
  entry = λ bytes. option_and_then (entry_from 0 switches) (sender_of bytes);
  byte_ns = byte_ns_of switches;
}

-- of one switch on a side, and of several
abbrev pub ports_of_one : Rows → Ports
ports_of_one t = ports_among (t ∷ [])

abbrev pub ports_of_several : List NamedRows → Ports
ports_of_several switches = ports_among (map (λ s. s.rows) switches)

abbrev pub ports_in : Described → Ports
ports_in (described.One t) = ports_of_one t
ports_in (described.Several switches) = ports_of_several switches

-- the ports that are meant where no option says it
abbrev pub ports_unsaid : UnsaidPort → Ports
ports_unsaid (unsaid.One port) = one_port port
ports_unsaid (unsaid.OfSender tables) = ports_of_one tables.now
ports_unsaid (unsaid.OfSenders switches) = ports_of_several switches.now

-- the ports that the program holds
abbrev pub ports_of : SystemPorts → Ports
ports_of (One port) = one_port port
ports_of (BySender entries byte_ns) = record {
  are_claimed = true;
  entry = λ bytes.
      option_and_then (λ number. known (slice_get entries.items number)) (sender_of bytes);
  byte_ns = time_in byte_ns.items;
}

-- both say the same of each frame
pub record Agree (p q : Ports) : Type 0 where
  pub claims : p.are_claimed ≡ q.are_claimed
  pub entries : (bytes : List ℕ) → p.entry bytes ≡ q.entry bytes
  pub byte_times : (switch port : ℕ) → p.byte_ns switch port ≡ q.byte_ns switch port
