-- Switches in which some keys of one have other values, and what stays then.
use Rattle.std.specs.Prelude.{◌≡◌, ℕ, zero, suc, List, [], ◌∷◌, map}
use Rattle.afdx_config.specs.declared.rows.Times.{Times}
use Rattle.afdx_config.specs.Rows.{LinkRow, Rows}
use Rattle.afdx_config.specs.Changed.{with_buffer, with_link_at}
use Rattle.afdx_config.specs.Switches.{NamedRows, named_rows}

-- ---- one key has another value

-- the tables of the switch at a place are changed
unfoldable pub changed_switch : ℕ → (Rows → Rows) → List NamedRows → List NamedRows
changed_switch place change [] = []
changed_switch zero change (s ∷ ss) = named_rows s.name (change s.rows) ∷ ss
changed_switch (suc place) change (s ∷ ss) = s ∷ changed_switch place change ss

-- the switch k has this buffer, and its link at a place has these times
abbrev pub with_buffer_at : (k buffer : ℕ) → List NamedRows → List NamedRows
with_buffer_at k buffer switches = changed_switch k (with_buffer buffer) switches

abbrev pub with_times_at : (k place : ℕ) → Times → List NamedRows → List NamedRows
with_times_at k place times switches = changed_switch k (with_link_at place times) switches

-- ---- what stays

-- without the jitter, the latency, the skew and the buffer
abbrev pub bare_link : LinkRow → LinkRow
bare_link l = record l { jitter_us = 0; latency_us = 0; skew_us = 0 }

abbrev pub bare : Rows → Rows
bare t = record t { buffer = 0; links = map bare_link t.links }

abbrev pub bare_switch : NamedRows → NamedRows
bare_switch s = named_rows s.name (bare s.rows)

-- they differ in no other key
abbrev pub AreAlike : (a b : List NamedRows) → Type 0
AreAlike a b = map bare_switch a ≡ map bare_switch b
