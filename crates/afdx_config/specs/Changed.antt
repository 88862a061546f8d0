-- Tables in which some keys have other values: the buffer, or a link's jitter, latency and skew.
use Rattle.std.specs.Prelude.{ℕ, zero, suc, List, [], ◌∷◌}
use Rattle.afdx_config.specs.declared.rows.Times.{Times}
use Rattle.afdx_config.specs.Rows.{LinkRow, Rows}

abbrev pub with_times : Times → LinkRow → LinkRow
with_times times l = record l {
  jitter_us = times.jitter_us;
  latency_us = times.latency_us;
  skew_us = times.skew_us;
}

-- the link at a place has these times
unfoldable pub changed_at : ℕ → Times → List LinkRow → List LinkRow
changed_at place times [] = []
changed_at zero times (l ∷ ls) = with_times times l ∷ ls
changed_at (suc place) times (l ∷ ls) = l ∷ changed_at place times ls

abbrev pub with_link_at : ℕ → Times → Rows → Rows
with_link_at place times t = record t { links = changed_at place times t.links }

abbrev pub with_buffer : ℕ → Rows → Rows
with_buffer buffer t = record t { buffer = buffer }
