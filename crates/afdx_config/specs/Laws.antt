-- What is true of lawful tables.
use Rattle.std.specs.Prelude.{◌≡◌, ℕ, ◌<◌, length, slice_get, Some}
use Rattle.afdx_config.specs.Rows.{SystemRow, LinkRow, Rows}
use Rattle.afdx_config.specs.Reading.{system_named, system_at_port, link_of, listener_at}
use Rattle.afdx_config.specs.Lawful.{IsLawful, IsLawfulSwitch, IsBetweenSystems}
use Rattle.afdx_config.specs.Admission.{IsAdmitted, IsServing}

-- a look-up by what tells a row from the others gives the row's own place
pub record RowsAreFound (t : Rows) : Type 0 where
  pub by_name : (i : ℕ) (s : SystemRow) →
      slice_get t.systems i ≡ Some s →
      system_named t.systems s.name ≡ Some i
  pub by_port : (i : ℕ) (s : SystemRow) →
      slice_get t.systems i ≡ Some s →
      system_at_port t.systems s.port ≡ Some i
  pub by_vl : (i : ℕ) (l : LinkRow) → slice_get t.links i ≡ Some l → link_of t.links l.vl ≡ Some i

abbrev pub EachRowIsFound : Type 0
EachRowIsFound = (t : Rows) → IsLawfulSwitch t → RowsAreFound t

-- what hears at a port is the system there, and each system hears at its port
pub record SystemsListen (t : Rows) : Type 0 where
  pub only : (port i : ℕ) →
      listener_at t port ≡ Some i →
      (system_at_port t.systems port ≡ Some i) × (i < t.own)
  pub each : (i : ℕ) (s : SystemRow) →
      slice_get t.systems i ≡ Some s →
      i < t.own →
      listener_at t s.port ≡ Some i

abbrev pub SystemsAlwaysListen : Type 0
SystemsAlwaysListen = (t : Rows) → IsLawfulSwitch t → SystemsListen t

-- what holds of the one switch on a side holds of it among others
abbrev pub OneIsAmongOthers : Type 0
OneIsAmongOthers = (t : Rows) → IsLawful t → IsLawfulSwitch t

-- and a switch without neighbours is the one switch
abbrev pub AloneIsOne : Type 0
AloneIsOne = (t : Rows) → IsLawfulSwitch t → t.own ≡ length t.systems → IsLawful t

-- all links of the one switch are between systems
abbrev pub OneIsBetweenSystems : Type 0
OneIsBetweenSystems = (t : Rows) (system place : ℕ) (s : SystemRow) (l : LinkRow) →
    IsLawful t →
    slice_get t.systems system ≡ Some s →
    slice_get t.links place ≡ Some l →
    IsBetweenSystems t system l

abbrev pub AdmittedIsServing : Type 0
AdmittedIsServing = (t : Rows) → IsAdmitted t → IsServing t
