-- What the source of a link of the tables is judged by.
use Rattle.std.specs.Prelude.{ℕ, Bool, ◌&&◌, slice_get, Option, List}
use Rattle.std.specs.Option.{option_map_or}
use Rattle.afdx_config.specs.Rows.{LinkRow, Rows}
use Rattle.afdx_conform.specs.Leeway.{Leeway}
use Rattle.afdx_frame.specs.declared.link.Side.TheVariants.{A, B}
use Rattle.afdx_law_bounds.specs.Tables.{port_of, rule_of}
use Rattle.afdx_lawful.specs.Sources.{Source, Way}
use Rattle.afdx_senders.specs.Sites.{Recorded}

-- what is asked for: the ways of the link at each place; by how many ns copies may be sent apart,
-- if that is given; what may be off; and the moment at which the recordings end
pub record Asked : Type 0 where
  pub ways : ℕ → List Way
  pub given : Option ℕ
  pub by : Leeway
  pub until : ℕ

-- the number of the system at this place
unfoldable pub id_of : Rows → ℕ → ℕ
id_of t system = option_map_or (λ s. s.id) (slice_get t.systems system) 0

-- both sites of the source of this link were recorded
abbrev pub is_paired : Rows → Recorded → LinkRow → Bool
is_paired t recorded l = recorded A (port_of t l.from) && recorded B (port_of t l.from)

-- of the link of this row, at this place
abbrev pub terms_at : Rows → Recorded → Asked → ℕ → LinkRow → Source
terms_at t recorded k place l = record {
  rule = rule_of t l;
  system = id_of t l.from;
  ways = k.ways place;
  given = k.given;
  is_paired = is_paired t recorded l;
  by = k.by;
  until = k.until;
}
