-- An end system at which nothing arrived.
use Rattle.std.proofs.Common.{◌≡◌, ℕ, List, [], length, Some, ap, sym, subst}
use Rattle.std.specs.Prelude.{slice_get}
use Rattle.std.specs.Option.{option_map_or}
use Rattle.afdx_frame.proofs.ListLemmas.{AllByRecursion-slice_get}
use Rattle.afdx_config.specs.Rows.{Rows, SystemRow}
use Rattle.afdx_config.specs.Lawful.{IsLawfulSwitch}
use Rattle.afdx_comport.specs.Held.{IsRead}
use Rattle.afdx_comport.specs.Ports.{ports_at_first}
use Rattle.afdx_comport.specs.declared.com_ports.ComPort.{ComPort}
use Rattle.afdx_comport.proofs.HeldLemmas.{all_read_at_first}
use Rattle.afdx_comport.proofs.PlaceLemmas.{found_configured}
use Rattle.afdx_end_systems.specs.ReadPorts.{AreRead, AreFound}
use Rattle.afdx_end_systems.specs.Receptions.{name_of}

pub named : (rows : Rows) (system : ℕ) (row : SystemRow) → slice_get rows.systems system ≡ Some row
    → name_of rows system ≡ row.name
named rows system row is = ap (λ o. option_map_or (λ (s : SystemRow). s.name) o []) is

pub read_at_first : (rows : Rows) (system : ℕ) (ports : List ComPort) → IsLawfulSwitch rows
    → ports ≡ ports_at_first system rows.ports → AreRead ports
read_at_first rows system ports lawful are =
    subst AreRead (sym are) (λ place port is.
    AllByRecursion-slice_get (λ (p : ComPort). IsRead p.held) (ports_at_first system rows.ports) place port
    (all_read_at_first (length rows.systems) system rows.links rows.ports lawful.ports.each) is)

pub found_at_first : (rows : Rows) (system : ℕ) (ports : List ComPort)
    → ports ≡ ports_at_first system rows.ports → AreFound rows system ports
found_at_first rows system ports are = subst (AreFound rows system) (sym are) (found_configured rows.ports system)
