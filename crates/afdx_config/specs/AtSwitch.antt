-- What stands at a switch of a cascade.
use Rattle.std.specs.Prelude.{ℕ, List, Option, option_map, option_and_then, slice_get}
use Rattle.afdx_config.specs.Rows.{LinkRow, Rows}
use Rattle.afdx_config.specs.Switches.{NamedRows}

-- the tables of a switch, and the row at a place there
abbrev pub tables_at : List NamedRows → ℕ → Option Rows
tables_at switches k = option_map (λ s. s.rows) (slice_get switches k)

abbrev pub link_at : List NamedRows → (k i : ℕ) → Option LinkRow
link_at switches k i = option_and_then (λ s. slice_get s.rows.links i) (slice_get switches k)
