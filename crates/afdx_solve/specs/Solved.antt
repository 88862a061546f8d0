-- The least values of four keys with which tables are admitted: each link's jitter from its sender,
-- then the buffer, then each link's latency from the bounds at all its ports, then its skew; each
-- from those before it.
use Rattle.std.specs.Prelude.{ℕ, zero, suc, ◌+◌, min, max, Bool, List, [], ◌∷◌, length, map, Option}
use Rattle.std.specs.Prelude.{Some, None, slice_get, if◌then◌else◌, ◌||◌, not, nat_lt}
use Rattle.std.specs.Int.{div_ceil}
use Rattle.std.specs.Option.{option_map_or}
use Rattle.afdx_frame.specs.declared.link.Priority.{Priority}
use Rattle.afdx_frame.specs.declared.link.Priority.TheVariants.{High, Low}
use Rattle.afdx_frame.specs.Lengths.{least_frame, greatest_buffer}
use Rattle.afdx_config.specs.Rows.{LinkRow, Rows}
use Rattle.afdx_config.specs.Reading.{greatest_delay}
use Rattle.afdx_config.specs.Lawful.{jitter_from_system}
use Rattle.afdx_admit.specs.Lines.{LoadedOutput, loaded_output_to, high_bound_of, low_bound_of}
use Rattle.afdx_admit.specs.Lines.{buffer_need_of, jitter_at}
use Rattle.afdx_solve.specs.declared.options.SolveOptions.{SolveOptions}

-- what a key takes, that may be kept or only raised
abbrev pub chosen : (keep raise_only : Bool) → (as_is least : ℕ) → ℕ
chosen keep raise_only as_is least =
    if keep then as_is else if raise_only then max as_is least else least

-- ---- jitters

-- in us, where the sender's is so many ns
abbrev pub least_jitter : ℕ → LinkRow → ℕ
least_jitter needed l = min (jitter_from_system l.bag_ms) (div_ceil needed 1000)

abbrev pub with_jitter_for : (keep raise_only : Bool) → ℕ → LinkRow → LinkRow
with_jitter_for keep raise_only needed l =
    record l { jitter_us = chosen keep raise_only l.jitter_us (least_jitter needed l) }

-- a link that comes from a neighbour keeps its jitter
abbrev pub keeps_jitter : SolveOptions → Rows → LinkRow → Bool
keeps_jitter o t l = o.kept.jitter || not (nat_lt l.from t.own)

abbrev pub with_jitter : SolveOptions → Rows → LinkRow → LinkRow
with_jitter o t l = with_jitter_for (keeps_jitter o t l) o.raise_only (jitter_at t l.from) l

unfoldable pub with_jitters : SolveOptions → Rows → Rows
with_jitters o t = record t { links = map (with_jitter o t) t.links }

-- ---- the buffer

-- the bytes that wait at the output port to the system at a place
abbrev pub need_to : Rows → ℕ → ℕ
need_to t place =
    option_map_or (λ s. buffer_need_of (loaded_output_to t place s)) (slice_get t.systems place) 0

-- the most of those to the first systems, as many as this
unfoldable pub greatest_need : Rows → ℕ → ℕ
greatest_need t zero = 0
greatest_need t (suc place) = max (greatest_need t place) (need_to t place)

abbrev pub least_buffer : Rows → ℕ
least_buffer t = min greatest_buffer (max least_frame (greatest_need t (length t.systems)))

unfoldable pub with_least_buffer : SolveOptions → Rows → Rows
with_least_buffer o t =
    record t { buffer = chosen o.kept.buffer o.raise_only t.buffer (least_buffer t) }

-- ---- latencies and skews

-- the bound of a class at an output port, in ns
abbrev pub class_bound : Priority → LoadedOutput → Option ℕ
class_bound High o = Some (high_bound_of o)
class_bound Low o = low_bound_of o

-- in us; where there is none, the most that a latency may be
abbrev pub in_us : Option ℕ → ℕ
in_us (Some bound) = div_ceil bound 1000
in_us None = greatest_delay

-- what a link of a class needs at the output port to the system at a place
unfoldable pub delay_to : Rows → Priority → ℕ → ℕ
delay_to t class place =
    option_map_or (λ s. in_us (class_bound class (loaded_output_to t place s)))
    (slice_get t.systems place) 0

-- and at those to several, where it needs so much at each
unfoldable pub latency_over : (ℕ → ℕ) → List ℕ → ℕ
latency_over delay [] = 1
latency_over delay (place ∷ places) = max (delay place) (latency_over delay places)

-- by so many us a skew is more than the latency: copies may be sent so far apart
abbrev pub apart_us : SolveOptions → ℕ
apart_us o = div_ceil o.apart 1000

abbrev pub least_skew : SolveOptions → (latency : ℕ) → ℕ
least_skew o latency = min greatest_delay (latency + apart_us o)

-- where so many us are needed
abbrev pub with_delays_for : SolveOptions → ℕ → LinkRow → LinkRow
with_delays_for o needed l =
    let latency = chosen o.kept.latency o.raise_only l.latency_us (min greatest_delay needed) in
    record l {
      latency_us = latency;
      skew_us = chosen o.kept.skew o.raise_only l.skew_us (least_skew o latency);
    }

abbrev pub with_delay : SolveOptions → Rows → LinkRow → LinkRow
with_delay o t l = with_delays_for o (latency_over (delay_to t l.priority) l.to) l

unfoldable pub with_delays : SolveOptions → Rows → Rows
with_delays o t = record t { links = map (with_delay o t) t.links }

-- ---- all four

abbrev pub solved : SolveOptions → Rows → Rows
solved o t = with_delays o (with_least_buffer o (with_jitters o t))
