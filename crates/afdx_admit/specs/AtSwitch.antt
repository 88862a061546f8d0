-- A row as it may stand at a switch of a cascade, and what a fault there speaks of.
use Rattle.std.specs.Prelude.{◌≡◌, ℕ, ◌<◌, List, length, Some}
use Rattle.std.specs.Prelude.{Bool, not, ◌&&◌, nat_le}
use Rattle.afdx_config.specs.Rows.{LinkRow, Rows}
use Rattle.afdx_config.specs.Lawful.{IsLinkUpTo, jitter_from_any}
use Rattle.afdx_config.specs.Switches.{NamedRows}
pub use Rattle.afdx_config.specs.AtSwitch.{tables_at, link_at}
use Rattle.afdx_admit.specs.declared.cascade_fault.CascadeFault.{CascadeFault}
use Rattle.afdx_admit.specs.declared.cascade_fault.SwitchFault.{SwitchFault}
use Rattle.afdx_admit.specs.declared.cascade_fault.SwitchFault.TheVariants.{Own, Unread}
use Rattle.afdx_admit.specs.Cascade.{RowAt, reads}
use Rattle.afdx_admit.specs.Known.{IsKnown}

-- a row as it may stand at its switch
pub record IsRowAt (switches : List NamedRows) (r : RowAt) : Type 0 where
  pub switch : r.switch < length switches
  pub row : (t : Rows) → tables_at switches r.switch ≡ Some t →
      IsLinkUpTo jitter_from_any (length t.systems) r.row

-- what the fault speaks of is in the switch's tables
abbrev pub IsKnownThere : Rows → SwitchFault → Type 0
IsKnownThere t (Own fault) = IsKnown t fault
IsKnownThere t (Unread vl neighbour) = neighbour.0 < length t.systems
IsKnownThere t _ = Unit {0}

-- and there is such a switch
pub record IsKnownAt (switches : List NamedRows) (e : CascadeFault) : Type 0 where
  pub switch : e.switch.0 < length switches
  pub tables : (t : Rows) → tables_at switches e.switch.0 ≡ Some t → IsKnownThere t e.fault

-- the place to which a switch sends the link is that of a neighbour which doesn't read it
abbrev pub is_unread : List NamedRows → NamedRows → LinkRow → (place : ℕ) → Bool
is_unread switches s l place = nat_le s.rows.own place && not (reads switches s l place)
