-- The lines of admission of a cascade: those of each switch by its own tables, and then what holds
-- from one row of a link to the next. Jitters, latencies and skews are in us.
use Rattle.std.specs.Prelude.{◌≡◌, ℕ, zero, suc, ◌+◌, ◌≤◌, Bool, true, false, not, ◌&&◌, ◌||◌}
use Rattle.std.specs.Prelude.{nat_le, nat_lt, nat_eq, List, [], ◌∷◌, ◌++◌, length, map, filter}
use Rattle.std.specs.Prelude.{Option, Some, None, slice_get, option_map, option_and_then, Contains}
use Rattle.std.specs.Prelude.{if◌then◌else◌}
use Rattle.std.specs.List.{list_any}
use Rattle.std.specs.Option.{option_map_or}
use Rattle.afdx_frame.specs.declared.link.Policing.{Policing}
use Rattle.afdx_frame.specs.declared.link.Policing.TheVariants.{Byte, Frame}
use Rattle.afdx_frame.specs.Lines.{Line, line, each_from}
use Rattle.afdx_config.specs.Rows.{SystemRow, LinkRow, Rows, is_to}
use Rattle.afdx_config.specs.Reading.{link_of}
use Rattle.afdx_config.specs.Switches.{NamedRows, switch_named, neighbour_named}
use Rattle.afdx_config.specs.Admission.{IsAdmitted}
use Rattle.afdx_admit.specs.declared.fault.AdmitFault.{AdmitFault}
use Rattle.afdx_admit.specs.declared.cascade_fault.CascadeFault.{CascadeFault}
use Rattle.afdx_admit.specs.declared.cascade_fault.SwitchFault.{SwitchFault}
use Rattle.afdx_admit.specs.declared.cascade_fault.SwitchFault.TheVariants.{Own, Unfed, Contract}
use Rattle.afdx_admit.specs.declared.cascade_fault.SwitchFault.TheVariants.{HopJitter, PathSkew}
use Rattle.afdx_admit.specs.declared.cascade_fault.SwitchFault.TheVariants.{Unread}
use Rattle.afdx_admit.specs.Lines.{lines}

-- ---- the way of a link

-- the row of this link at a switch
abbrev pub row_of : Rows → (vl : ℕ) → Option LinkRow
row_of t vl = option_and_then (slice_get t.links) (link_of t.links vl)

-- a neighbour of a switch, by its place
abbrev pub neighbour_of : Rows → ℕ → Option SystemRow
neighbour_of t i = if nat_le t.own i then slice_get t.systems i else None

-- it is the place of the neighbour of this name
abbrev pub is_neighbour : Rows → (name : List ℕ) → (place : ℕ) → Bool
is_neighbour t name place = option_map_or (λ i. nat_eq i place) (neighbour_named t name) false

-- the link goes from this switch to its neighbour of this name
abbrev pub goes_towards : Rows → (name : List ℕ) → LinkRow → Bool
goes_towards t name l = option_map_or (λ place. is_to place l) (neighbour_named t name) false

-- a link's row at a switch, where it goes to the neighbour of this name
abbrev pub row_towards : Rows → (name : List ℕ) → (vl : ℕ) → Option LinkRow
row_towards t name vl =
    option_and_then (λ l. if goes_towards t name l then Some l else None) (row_of t vl)

-- a row with the place of its switch
pub record RowAt : Type 0 where
  pub switch : ℕ
  pub row : LinkRow

abbrev pub row_at : ℕ → LinkRow → RowAt
row_at k l = record { switch = k; row = l }

-- the row before that of a link at the switch called `name`, at the switch that it comes from
abbrev pub row_from : List NamedRows → (name : List ℕ) → (vl : ℕ) → SystemRow → Option RowAt
row_from switches name vl e =
    option_and_then (λ j. option_and_then (λ s. option_map (row_at j) (row_towards s.rows name vl))
    (slice_get switches j)) (switch_named switches e.name)

unfoldable pub row_before : List NamedRows → RowAt → Option RowAt
row_before switches r =
    option_and_then (λ s. option_and_then (row_from switches s.name r.row.vl)
    (neighbour_of s.rows r.row.from)) (slice_get switches r.switch)

-- a system of its switch sends it
unfoldable pub is_sent_here : List NamedRows → RowAt → Bool
is_sent_here switches r =
    option_map_or (λ s. nat_lt r.row.from s.rows.own) (slice_get switches r.switch) false

-- the sum of the latencies of the rows on the way to this one, itself among them, back to the row
-- that a system sends, if these are at most so many
abbrev pub latency_within : ℕ → List NamedRows → RowAt → Option ℕ
latency_within zero switches r = None
latency_within (suc count) switches r =
    if is_sent_here switches r
    then Some r.row.latency_us
    else option_and_then (λ before. option_map (λ sum. sum + r.row.latency_us)
    (latency_within count switches before)) (row_before switches r)

-- a switch has one row of a link, so a way has no more rows than there are switches; none where it
-- is broken
unfoldable pub way_latency : List NamedRows → RowAt → Option ℕ
way_latency switches r = latency_within (length switches) switches r

-- ---- the lines

abbrev pub fault_at : ℕ → SwitchFault → CascadeFault
fault_at k fault = record { switch = record { 0 = k }; fault = fault }

-- those of a switch by its own tables
abbrev pub own_line : ℕ → Line AdmitFault → Line CascadeFault
own_line k l = line l.holds (fault_at k (Own l.fault))

unfoldable pub own_lines : List NamedRows → ℕ → List (Line CascadeFault)
own_lines switches k =
    option_map_or (λ s. map (own_line k) (lines s.rows)) (slice_get switches k) []

abbrev pub same_policing : Policing → Policing → Bool
same_policing Byte Byte = true
same_policing Frame Frame = true
same_policing Byte Frame = false
same_policing Frame Byte = false

-- two rows of a link promise the same of what it may send
abbrev pub same_contract : LinkRow → LinkRow → Bool
same_contract a b =
    ((nat_eq a.bag_ms b.bag_ms && nat_eq a.lmin b.lmin) && nat_eq a.lmax b.lmax)
    && same_policing a.policing b.policing

-- how late a frame may be behind a switch, at most
abbrev pub late_behind : LinkRow → ℕ
late_behind l = l.jitter_us + l.latency_us

-- the link goes to a system of the switch
abbrev pub goes_to_system : Rows → LinkRow → Bool
goes_to_system t l = list_any (λ place. nat_lt place t.own) l.to

-- where it does, the row's skew allows for a way of so many us
abbrev pub allows_way : Rows → LinkRow → (sum : ℕ) → Bool
allows_way t l sum = not (goes_to_system t l) || nat_le sum l.skew_us

-- of a row with the one before it and the sum of its way: the same contract, a jitter that allows
-- for what is behind, and where it goes to a system a skew that allows for the whole way
abbrev pub lines_of_hop : ℕ → Rows → (before l : LinkRow) → (sum : ℕ) → List (Line CascadeFault)
lines_of_hop k t before l sum =
    line (same_contract before l) (fault_at k (Contract (record { 0 = l.vl })))
    ∷ line (nat_le (late_behind before) l.jitter_us)
    (fault_at k (HopJitter (record { 0 = l.vl }) (late_behind before)))
    ∷ line (allows_way t l sum) (fault_at k (PathSkew (record { 0 = l.vl }) sum)) ∷ []

-- there is a way to the row; where there is none nothing more is asked
abbrev pub fed_line : Bool → ℕ → LinkRow → Line CascadeFault
fed_line fed k l = line fed (fault_at k (Unfed (record { 0 = l.vl })))

abbrev pub lines_if_fed : ℕ → Rows → LinkRow → Option RowAt → Option ℕ → List (Line CascadeFault)
lines_if_fed k t l (Some before) (Some sum) =
    fed_line true k l ∷ lines_of_hop k t before.row l sum
lines_if_fed k t l (Some before) None = fed_line false k l ∷ []
lines_if_fed k t l None sum = fed_line false k l ∷ []

abbrev pub lines_of_row : List NamedRows → ℕ → Rows → LinkRow → List (Line CascadeFault)
lines_of_row switches k t l =
    if nat_lt l.from t.own
    then []
    else lines_if_fed k t l (row_before switches (row_at k l)) (way_latency switches (row_at k l))

unfoldable pub hop_lines : List NamedRows → (k i : ℕ) → List (Line CascadeFault)
hop_lines switches k i =
    option_map_or (λ s. option_map_or (lines_of_row switches k s.rows)
    (slice_get s.rows.links i) []) (slice_get switches k) []

-- the neighbour at a place has a row of the link that comes from the switch called `name`
abbrev pub comes_from : Rows → (name : List ℕ) → (vl : ℕ) → Bool
comes_from t name vl = option_map_or (λ l. is_neighbour t name l.from) (row_of t vl) false

abbrev pub reads_at : List NamedRows → (name : List ℕ) → (vl : ℕ) → SystemRow → Bool
reads_at switches name vl e =
    option_map_or (λ s. comes_from s.rows name vl)
    (option_and_then (slice_get switches) (switch_named switches e.name)) false

abbrev pub reads : List NamedRows → NamedRows → LinkRow → (place : ℕ) → Bool
reads switches s l place =
    option_map_or (reads_at switches s.name l.vl) (slice_get s.rows.systems place) false

-- each neighbour to which a row goes reads it
abbrev pub read_line : List NamedRows → ℕ → NamedRows → LinkRow → ℕ → Line CascadeFault
read_line switches k s l place =
    line (reads switches s l place)
    (fault_at k (Unread (record { 0 = l.vl }) (record { 0 = place })))

abbrev pub lines_of_readers : List NamedRows → ℕ → NamedRows → LinkRow → List (Line CascadeFault)
lines_of_readers switches k s l =
    map (read_line switches k s l) (filter (λ place. nat_le s.rows.own place) l.to)

unfoldable pub reader_lines : List NamedRows → (k i : ℕ) → List (Line CascadeFault)
reader_lines switches k i =
    option_map_or (λ s. option_map_or (lines_of_readers switches k s)
    (slice_get s.rows.links i) []) (slice_get switches k) []

-- of one switch, each of its links
unfoldable pub hops_lines : List NamedRows → ℕ → List (Line CascadeFault)
hops_lines switches k =
    option_map_or (λ s. each_from (hop_lines switches k) 0 (length s.rows.links))
    (slice_get switches k) []

unfoldable pub readers_lines : List NamedRows → ℕ → List (Line CascadeFault)
readers_lines switches k =
    option_map_or (λ s. each_from (reader_lines switches k) 0 (length s.rows.links))
    (slice_get switches k) []

-- the switches by their own tables, then the rows that come from neighbours, then those that go to
-- neighbours, each in file order
unfoldable pub cascade_lines : List NamedRows → List (Line CascadeFault)
cascade_lines switches =
    each_from (own_lines switches) 0 (length switches)
    ++ (each_from (hops_lines switches) 0 (length switches)
    ++ each_from (readers_lines switches) 0 (length switches))

-- ---- what is admitted

-- a row that comes from a neighbour: its way is whole, and it allows for what is behind it
pub record IsHop (switches : List NamedRows) (t : Rows) (r : RowAt) : Type 0 where
  pub before : RowAt
  pub sum : ℕ
  pub stands : row_before switches r ≡ Some before
  pub way : way_latency switches r ≡ Some sum
  pub contract : same_contract before.row r.row ≡ true
  pub jitter : late_behind before.row ≤ r.row.jitter_us
  pub skew : goes_to_system t r.row ≡ true → sum ≤ r.row.skew_us

-- each switch is admitted by its own tables, each row that comes from a neighbour is a hop, and
-- each neighbour to which a row goes reads it
pub record IsCascadeAdmitted (switches : List NamedRows) : Type 0 where
  pub each : (k : ℕ) (s : NamedRows) → slice_get switches k ≡ Some s → IsAdmitted s.rows
  pub hops : (k : ℕ) (s : NamedRows) → slice_get switches k ≡ Some s →
      (i : ℕ) (l : LinkRow) → slice_get s.rows.links i ≡ Some l → s.rows.own ≤ l.from →
      IsHop switches s.rows (row_at k l)
  pub readers : (k : ℕ) (s : NamedRows) → slice_get switches k ≡ Some s →
      (i : ℕ) (l : LinkRow) → slice_get s.rows.links i ≡ Some l →
      (place : ℕ) → Contains l.to place → s.rows.own ≤ place → reads switches s l place ≡ true
