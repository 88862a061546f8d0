-- How systems get a link, over one switch of a side or over several.
use Rattle.std.specs.Prelude.{ℕ, zero, suc, ◌+◌, ◌*◌, nat_lt, filter, map, slice_get}
use Rattle.std.specs.Prelude.{List, [], ◌++◌, length, Some, None}
use Rattle.std.specs.Option.{option_map_or}
use Rattle.afdx_admit.specs.Apart.{byte_to, way_to}
use Rattle.afdx_admit.specs.Apart.{way_of as row_way}
use Rattle.afdx_admit.specs.Cascade.{row_at, row_of}
use Rattle.afdx_admit.specs.declared.apart.RowWay.{RowWay}
use Rattle.afdx_config.specs.Rows.{LinkRow, Rows}
use Rattle.afdx_config.specs.Switches.{NamedRows}
use Rattle.afdx_lawful.specs.Sources.{Way}
use Rattle.afdx_lawful.specs.Ways.{is_way}
use Rattle.afdx_senders.specs.Sites.{Among}

-- ---- from a row of a switch, to which frames come this way

module _ (t : Rows) (l : LinkRow) (w : RowWay) where
  -- the way on, as the row says, over the line to the system at this place, in ns
  abbrev pub way_on : ℕ → Way
  way_on place = is_way (1000 * l.skew_us) (1000 * w.latency) (w.cables + byte_to t place)

  -- the ways to systems among some places, in their order
  unfoldable pub ways_among : List ℕ → List Way
  ways_among places = map way_on (filter (λ place. nat_lt place t.own) places)

  -- to all systems of the switch that get it
  abbrev pub ways_on : List Way
  ways_on = ways_among l.to

-- ---- of a link, where there is one switch on a side

abbrev pub ways_of : Rows → LinkRow → List Way
ways_of t l = ways_on t l (row_way l.latency_us 0)

-- ---- of a link, over several switches

-- from its row at the switch of a place, if there is a way to that
abbrev pub row_ways_at : List NamedRows → ℕ → Rows → LinkRow → List Way
row_ways_at switches k t l = option_map_or (ways_on t l) (way_to switches (row_at k l)) []

unfoldable pub ways_at : List NamedRows → (vl : ℕ) → ℕ → List Way
ways_at switches vl k =
    option_map_or (λ s. option_map_or (row_ways_at switches k s.rows) (row_of s.rows vl) [])
    (slice_get switches k) []

-- from those at the first switches, as many as this, and at all
unfoldable pub ways_over : List NamedRows → (vl : ℕ) → ℕ → List Way
ways_over switches vl zero = []
ways_over switches vl (suc k) = ways_over switches vl k ++ ways_at switches vl k

abbrev pub cascade_ways : List NamedRows → (vl : ℕ) → List Way
cascade_ways switches vl = ways_over switches vl (length switches)

-- ---- of a link of these tables, by all switches of the configuration, where there are several

abbrev pub ways_by : Among → Rows → LinkRow → List Way
ways_by None t l = ways_of t l
ways_by (Some switches) t l = cascade_ways switches l.vl
