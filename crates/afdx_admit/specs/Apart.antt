-- How far apart the copies of a frame may be sent on the two networks, so that each of its
-- receivers takes them for copies of one: what the tables leave for it, in ns.
use Rattle.std.specs.Prelude.{ℕ, zero, suc, ◌+◌, ◌-◌, ◌*◌, min, nat_lt, List, [], ◌∷◌, length}
use Rattle.std.specs.Prelude.{Option, Some, None, slice_get, option_map, option_and_then}
use Rattle.std.specs.Prelude.{if◌then◌else◌}
use Rattle.std.specs.Option.{option_map_or}
use Rattle.afdx_config.specs.Rows.{LinkRow, Rows}
use Rattle.afdx_config.specs.Admission.{byte_ns}
use Rattle.afdx_config.specs.Switches.{NamedRows}
use Rattle.afdx_admit.specs.declared.apart.RowWay.{RowWay}
use Rattle.afdx_admit.specs.Cascade.{RowAt, row_at, row_of, row_before, is_sent_here, way_latency}

-- A receiver takes copies for copies of one that come up to `skew` apart. One may take the whole
-- latency to it, the other `least`: so this much is left for the times at which they are sent.
abbrev pub left_of : (skew latency least : ℕ) → ℕ
left_of skew latency least = skew - (latency - least)

-- the bytes of a frame on a line up to its last: preamble and start delimiter stand before it
abbrev pub bytes_to_last : (bytes : ℕ) → ℕ
bytes_to_last bytes = bytes + 8

-- the ns of a byte on the line to what stands at a place
abbrev pub byte_to : Rows → ℕ → ℕ
byte_to t place = option_map_or byte_ns (slice_get t.systems place) 0

-- ---- of a row

abbrev pub way_of : (latency cables : ℕ) → RowWay
way_of latency cables = record { latency = latency; cables = cables }

-- what it leaves copies on their way to the system at a place: the shortest are the soonest there
abbrev pub left_to : Rows → LinkRow → RowWay → (place : ℕ) → ℕ
left_to t l way place =
    left_of (1000 * l.skew_us) (1000 * way.latency)
    (bytes_to_last l.lmin * (way.cables + byte_to t place))

abbrev pub lesser : Option ℕ → Option ℕ → Option ℕ
lesser None other = other
lesser (Some least) None = Some least
lesser (Some least) (Some other) = Some (min least other)

abbrev pub if_own : (left : ℕ → ℕ) → (own place : ℕ) → Option ℕ
if_own left own place = if nat_lt place own then Some (left place) else None

-- the least over those of some places that are systems
unfoldable pub least_to : (left : ℕ → ℕ) → (own : ℕ) → List ℕ → Option ℕ
least_to left own [] = None
least_to left own (place ∷ places) = lesser (if_own left own place) (least_to left own places)

-- and over all systems of its switch that get the link
abbrev pub row_apart : Rows → LinkRow → RowWay → Option ℕ
row_apart t l way = least_to (left_to t l way) t.own l.to

-- ---- of a link, where there is one switch on a side

abbrev pub link_apart : Rows → LinkRow → Option ℕ
link_apart t l = row_apart t l (way_of l.latency_us 0)

-- ---- of a link, over several switches

-- the ns of a byte on the cable that a row comes from; both ends of a cable have one rate
abbrev pub cable_of : List NamedRows → RowAt → ℕ
cable_of switches r =
    option_map_or (λ s. byte_to s.rows r.row.from) (slice_get switches r.switch) 0

-- those of all cables on the way to a row, summed, if it has at most so many rows
abbrev pub cables_within : ℕ → List NamedRows → RowAt → Option ℕ
cables_within zero switches r = None
cables_within (suc count) switches r =
    if is_sent_here switches r
    then Some 0
    else option_and_then (λ before. option_map (λ sum. sum + cable_of switches r)
    (cables_within count switches before)) (row_before switches r)

unfoldable pub way_cables : List NamedRows → RowAt → Option ℕ
way_cables switches r = cables_within (length switches) switches r

-- none where the way is broken
unfoldable pub way_to : List NamedRows → RowAt → Option RowWay
way_to switches r =
    option_and_then (λ latency. option_map (way_of latency) (way_cables switches r))
    (way_latency switches r)

-- of its row at the switch of a place
abbrev pub row_apart_at : List NamedRows → ℕ → Rows → LinkRow → Option ℕ
row_apart_at switches k t l =
    option_and_then (row_apart t l) (way_to switches (row_at k l))

unfoldable pub apart_at : List NamedRows → (vl : ℕ) → ℕ → Option ℕ
apart_at switches vl k =
    option_and_then (λ s. option_and_then (row_apart_at switches k s.rows) (row_of s.rows vl))
    (slice_get switches k)

-- the least over the first switches, as many as this, and over all
unfoldable pub apart_over : List NamedRows → (vl : ℕ) → ℕ → Option ℕ
apart_over switches vl zero = None
apart_over switches vl (suc k) = lesser (apart_over switches vl k) (apart_at switches vl k)

abbrev pub cascade_apart : List NamedRows → (vl : ℕ) → Option ℕ
cascade_apart switches vl = apart_over switches vl (length switches)
