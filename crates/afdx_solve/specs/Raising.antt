-- The way to the least solution: the four keys begin at their least, and are raised to what they
-- need until each has it. Times are in us.
use Rattle.std.specs.Prelude.{◌≡◌, ℕ, ◌+◌, ◌-◌, ◌<◌, ◌≤◌, ◌⊎◌, Bool, true, false, List, [], ◌∷◌, length, map, Some}
use Rattle.std.specs.Prelude.{slice_get, slice_index}
use Rattle.afdx_frame.specs.declared.link.Priority.{Priority}
use Rattle.afdx_frame.specs.Lengths.{least_frame, greatest_buffer}
use Rattle.afdx_frame.specs.Ports.{last_port}
use Rattle.afdx_config.specs.declared.rows.Times.{Times}
use Rattle.afdx_config.specs.Rows.{LinkRow, Rows}
use Rattle.afdx_config.specs.Reading.{greatest_delay}
use Rattle.afdx_config.specs.Lawful.{jitter_from_any}
use Rattle.afdx_config.specs.Changed.{with_times}
use Rattle.afdx_config.specs.Switches.{NamedRows, named_rows}
use Rattle.afdx_config.specs.AtSwitch.{tables_at, link_at}
use Rattle.afdx_config.specs.ChangedSwitches.{AreAlike}
use Rattle.afdx_admit.specs.Cascade.{row_at}
use Rattle.afdx_solve.specs.declared.delays.Delays.{Delays}
use Rattle.afdx_solve.specs.declared.options.SolveOptions.{SolveOptions}
use Rattle.afdx_solve.specs.Delays.{of_class}
use Rattle.afdx_solve.specs.Solved.{chosen, delay_to, least_buffer}
use Rattle.afdx_solve.specs.SolvedCascade.{TimesTake, KeysTake, IsEnough, AreAtMost, AreTimesAtMost}

-- ---- where the keys begin

-- at the least of their ranges, or as they are
abbrev pub begun_times : SolveOptions → LinkRow → Times
begun_times o l = record {
  jitter_us = chosen o.kept.jitter o.raise_only l.jitter_us 0;
  latency_us = chosen o.kept.latency o.raise_only l.latency_us 1;
  skew_us = chosen o.kept.skew o.raise_only l.skew_us 1;
}

abbrev pub begun : SolveOptions → LinkRow → LinkRow
begun o l = with_times (begun_times o l) l

abbrev pub begun_buffer : SolveOptions → ℕ → ℕ
begun_buffer o buffer = chosen o.kept.buffer o.raise_only buffer least_frame

abbrev pub begun_links : SolveOptions → Rows → Rows
begun_links o t = record t { links = map (begun o) t.links }

abbrev pub with_begun_buffer : SolveOptions → Rows → Rows
with_begun_buffer o t = record t { buffer = begun_buffer o t.buffer }

abbrev pub begun_switch : SolveOptions → NamedRows → NamedRows
begun_switch o s = named_rows s.name (with_begun_buffer o (begun_links o s.rows))

-- no key is less than where it begins
pub record IsNoLessThanBegun (o : SolveOptions) (file switches : List NamedRows) : Type 0 where
  pub buffers : (k : ℕ) (f t : Rows) →
      tables_at file k ≡ Some f →
      tables_at switches k ≡ Some t →
      begun_buffer o f.buffer ≤ t.buffer
  pub times : (k i : ℕ) (f l : LinkRow) →
      link_at file k i ≡ Some f →
      link_at switches k i ≡ Some l →
      AreTimesAtMost (begun o f) l

-- ---- what stays true while keys are raised

-- each key is at least where it begins, at most what it takes, and at most what any values have
-- that are enough
pub record IsRising (o : SolveOptions) (file switches : List NamedRows) : Type 0 where
  pub from : IsNoLessThanBegun o file switches
  pub to : KeysTake (λ taken value. value ≤ taken) o file switches
  pub least : (others : List NamedRows) → IsEnough o file others → AreAtMost switches others

-- what a row, some rows and all switches have left to the greatest values
abbrev pub left_of : LinkRow → ℕ
left_of l =
    (jitter_from_any l.bag_ms - l.jitter_us)
    + (greatest_delay - l.latency_us)
    + (greatest_delay - l.skew_us)

abbrev pub left_at : List LinkRow → ℕ
left_at [] = 0
left_at (l ∷ ls) = left_of l + left_at ls

unfoldable pub left : List NamedRows → ℕ
left [] = 0
left (s ∷ ss) = (greatest_buffer - s.rows.buffer) + left_at s.rows.links + left ss

-- a row's times with what they need: those that aren't kept are raised to it
abbrev pub raised_times : SolveOptions → (needed : Times) → LinkRow → Times
raised_times o needed l = record {
  jitter_us = chosen o.kept.jitter true l.jitter_us needed.jitter_us;
  latency_us = chosen o.kept.latency true l.latency_us needed.latency_us;
  skew_us = chosen o.kept.skew true l.skew_us needed.skew_us;
}

-- one of these times is more than the row's
abbrev pub IsMoreIn : LinkRow → Times → Type 0
IsMoreIn l times =
    (l.jitter_us < times.jitter_us)
    ⊎ ((l.latency_us < times.latency_us) ⊎ (l.skew_us < times.skew_us))

-- some keys were raised, or none
pub record Raises (o : SolveOptions) (old new : List NamedRows) (raised : Bool) : Type 0 where
  pub alike : AreAlike old new
  pub more : AreAtMost old new
  pub rising : (file : List NamedRows) → IsRising o file old → IsRising o file new
  pub less : raised ≡ true → left new < left old
  pub same : raised ≡ false → new ≡ old

-- ---- where nothing is raised any more

-- a key that isn't kept takes the greater of its value and what it needs
abbrev pub raising : SolveOptions → SolveOptions
raising o = record o { raise_only = true }

-- and has it already: the times of a row, the buffer of a switch, and all of its keys
abbrev pub AreTimesSettled : SolveOptions → (switches : List NamedRows) → Rows → (k : ℕ) → LinkRow →
    Type 0
AreTimesSettled o switches t k l =
    TimesTake (λ taken value. taken ≤ value) (raising o) switches t l (row_at k l)

abbrev pub IsBufferSettled : SolveOptions → Rows → Type 0
IsBufferSettled o t = chosen o.kept.buffer true t.buffer (least_buffer t) ≤ t.buffer

pub record IsSettledAt (o : SolveOptions) (switches : List NamedRows) (k : ℕ) : Type 0 where
  pub buffer : (t : Rows) → tables_at switches k ≡ Some t → IsBufferSettled o t
  pub times : (i : ℕ) (t : Rows) (l : LinkRow) →
      tables_at switches k ≡ Some t →
      slice_get t.links i ≡ Some l →
      AreTimesSettled o switches t k l

-- ---- what is kept of the output ports of a switch

-- it stands so to what links of each class need there
pub record AreDelaysBy (Stands : (kept needed : ℕ) → Type 0) (t : Rows) (d : Delays) : Type 0 where
  pub high : length d.high ≡ last_port
  pub low : length d.low ≡ last_port
  pub each : (class : Priority) (place : ℕ) →
      place < length t.systems →
      Stands (slice_index (of_class class d) place) (delay_to t class place)
