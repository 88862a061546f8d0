-- The plan of a configuration's switches: the tables of each, and where its cables end.
use Rattle.std.specs.Prelude.{◌≡◌, ℕ, ◌<◌, Some, List, [], ◌∷◌, length, slice_get}
use Rattle.std.specs.Option.{option_map_or}
use Rattle.afdx_config.specs.Rows.{Rows, rows_with}
use Rattle.afdx_config.specs.Switches.{NamedRows, AreSwitches, far_end}
use Rattle.afdx_cascade.specs.SwitchEvents.{Plan, IsPlan, End}
use Rattle.afdx_cascade.specs.Turning.{end_of}

-- the tables of the first switch
abbrev pub first_tables : List NamedRows → Rows
first_tables [] = rows_with 0 0 0 [] [] []
first_tables (s ∷ switches) = s.rows

-- the tables of the switch of a number; past the last one those of the first
unfoldable pub tables_of : List NamedRows → ℕ → Rows
tables_of switches k = option_map_or (λ s. s.rows) (slice_get switches k) (first_tables switches)

abbrev pub plan_of : List NamedRows → Plan
plan_of switches = record {
  count = length switches;
  tables = tables_of switches;
  far_end = λ k port. end_of (far_end switches k port);
}

-- each cable is at two of the switches
pub record AreJoined (c : Plan) : Type 0 where
  pub from : (k port : ℕ) (e : End) → c.far_end k port ≡ Some e → k < c.count
  pub to : (k port : ℕ) (e : End) → c.far_end k port ≡ Some e → e.switch < c.count

-- The switches of a configuration are a plan: a cable ends at a port of another, which leads back.
abbrev pub SwitchesAreAPlan : Type 0
SwitchesAreAPlan =
    (switches : List NamedRows) →
    AreSwitches switches →
    IsPlan (plan_of switches) × AreJoined (plan_of switches)
