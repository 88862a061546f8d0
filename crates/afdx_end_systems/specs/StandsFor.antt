-- What the end systems of a network are after what was handed over to them.
use Rattle.std.specs.Prelude.{◌≡◌, ℕ, Option, Some, None, List, option_and_then, slice_get, string_bytes}
use Rattle.afdx_config.specs.Rows.{Rows}
use Rattle.afdx_config.specs.Reading.{listener_at}
use Rattle.afdx_receive.specs.Arrivals.{Arrived}
use Rattle.afdx_receive.specs.StandsFor.{HasReceived}
use Rattle.afdx_end_systems.specs.declared.end_system.EndSystem.{EndSystem}
use Rattle.afdx_end_systems.specs.declared.systems.Systems.{Systems}
use Rattle.afdx_end_systems.specs.Handovers.{HandedOver, came_to}
use Rattle.afdx_end_systems.specs.ReadPorts.{AreFound}
use Rattle.afdx_end_systems.specs.Receptions.{name_of}

-- the system at this place of the tables, after what arrived at it
pub record IsAfter (rows : Rows) (system : ℕ) (e : EndSystem) (past : List Arrived) : Type 0 where
  pub name : string_bytes e.name ≡ name_of rows system
  pub receives : HasReceived rows system past e.receiver
  pub found : AreFound rows system e.ports

-- no system hears at a port, or this one does
abbrev pub IsAt : Rows → List Arrived → Option ℕ → Option EndSystem → Type 0
IsAt rows past None None = Unit {0}
IsAt rows past None (Some e) = ⊥
IsAt rows past (Some system) None = ⊥
IsAt rows past (Some system) (Some e) = IsAfter rows system e past

-- the system at a port
abbrev pub system_in : Systems → ℕ → Option EndSystem
system_in systems port = option_and_then (λ system. system) (slice_get systems.at_ports.items port)

-- at each port is the system that hears there, after what came to that port
pub record StandsFor (rows : Rows) (systems : Systems) (all : List HandedOver) : Type 0 where
  pub each : (port : ℕ) →
      IsAt rows (came_to port all) (listener_at rows port) (system_in systems port)
