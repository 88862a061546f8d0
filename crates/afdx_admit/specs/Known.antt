-- What a fault speaks of.
use Rattle.std.specs.Prelude.{ℕ, ◌<◌, List, [], length, slice_get}
use Rattle.std.specs.Option.{option_map_or}
use Rattle.afdx_config.specs.Rows.{Rows}
use Rattle.afdx_admit.specs.declared.cascade_fault.SwitchFault.{SwitchFault}
use Rattle.afdx_admit.specs.declared.cascade_fault.SwitchFault.TheVariants.{Own, Unread}
use Rattle.afdx_admit.specs.declared.fault.AdmitFault.{AdmitFault}
use Rattle.afdx_admit.specs.declared.fault.AdmitFault.TheVariants.{SenderJitter}

-- the sender that the fault speaks of is one of the tables
abbrev pub IsKnown : Rows → AdmitFault → Type 0
IsKnown t (SenderJitter system ns) = system.0 < length t.systems
IsKnown t _ = Unit {0}

-- its name, or none
abbrev pub name_of : Rows → AdmitFault → List ℕ
name_of t (SenderJitter system ns) = option_map_or (λ s. s.name) (slice_get t.systems system.0) []
name_of t _ = []

-- ---- in a cascade

-- the name of what a fault at a switch speaks of, or none
abbrev pub name_at : Rows → SwitchFault → List ℕ
name_at t (Own fault) = name_of t fault
name_at t (Unread vl place) = option_map_or (λ s. s.name) (slice_get t.systems place.0) []
name_at t _ = []
