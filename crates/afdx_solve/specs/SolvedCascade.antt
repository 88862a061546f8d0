-- The least values of four keys with which several switches are admitted: the jitter, the latency
-- and the skew of each row, and the buffer of each switch. What a key needs rests on others: a
-- jitter after a cable on the latency before it, a latency on the jitters of all that shares its
-- ports, a skew on the latencies of its way.
use Rattle.std.specs.Prelude.{◌≡◌, ℕ, ◌+◌, ◌≤◌, min, max, Bool, true, false, List, Some, slice_get}
use Rattle.std.specs.Prelude.{if◌then◌else◌, nat_lt}
use Rattle.std.specs.Option.{option_map_or, unwrap_or}
use Rattle.afdx_config.specs.Rows.{LinkRow, Rows}
use Rattle.afdx_config.specs.Reading.{greatest_delay}
use Rattle.afdx_config.specs.Lawful.{jitter_from_any}
use Rattle.afdx_config.specs.Switches.{NamedRows, AreSwitches}
use Rattle.afdx_config.specs.AtSwitch.{tables_at, link_at}
use Rattle.afdx_config.specs.ChangedSwitches.{AreAlike}
use Rattle.afdx_admit.specs.Lines.{jitter_at}
use Rattle.afdx_admit.specs.Cascade.{RowAt, row_at, row_before, way_latency, late_behind}
use Rattle.afdx_admit.specs.Cascade.{goes_to_system, IsCascadeAdmitted}
use Rattle.afdx_solve.specs.declared.options.SolveOptions.{SolveOptions}
use Rattle.afdx_solve.specs.Solved.{chosen, least_jitter, delay_to, latency_over, least_buffer}
use Rattle.afdx_solve.specs.Solved.{apart_us}

-- ---- what a row needs, with the values that the switches have; times are in us

-- how late a frame may be behind the row before this one; 0 where the way is broken
unfoldable pub late_before : List NamedRows → RowAt → ℕ
late_before switches r =
    option_map_or
    (λ sum. option_map_or (λ before. late_behind before.row) (row_before switches r) 0)
    (way_latency switches r) 0

-- the jitter, which allows for the system that sends the row, or for what is behind it
unfoldable pub jitter_needed : List NamedRows → Rows → RowAt → ℕ
jitter_needed switches t r =
    if nat_lt r.row.from t.own
    then least_jitter (jitter_at t r.row.from) r.row
    else min (jitter_from_any r.row.bag_ms) (late_before switches r)

-- the latency, with which it is in time at each of its ports
unfoldable pub latency_needed : Rows → LinkRow → ℕ
latency_needed t l = min greatest_delay (latency_over (delay_to t l.priority) l.to)

-- how far apart copies may come to a system of this switch: by the way, and by how far apart they
-- may be sent
abbrev pub way_to_system : (apart : ℕ) → List NamedRows → Rows → RowAt → ℕ
way_to_system apart switches t r =
    if goes_to_system t r.row then unwrap_or (way_latency switches r) 0 + apart else 0

-- the skew, which allows for the latency and for that
unfoldable pub skew_needed : (apart : ℕ) → List NamedRows → Rows → RowAt → ℕ
skew_needed apart switches t r =
    min greatest_delay (max r.row.latency_us (way_to_system apart switches t r))

-- ---- each key by what it takes

-- the times of a row stand so to what they take, if `file` is the row in the file
pub record TimesTake (Stands : (taken value : ℕ) → Type 0) (o : SolveOptions)
    (switches : List NamedRows) (t : Rows) (file : LinkRow) (r : RowAt) : Type 0 where
  pub jitter :
      Stands (chosen o.kept.jitter o.raise_only file.jitter_us (jitter_needed switches t r))
      r.row.jitter_us
  pub latency :
      Stands (chosen o.kept.latency o.raise_only file.latency_us (latency_needed t r.row))
      r.row.latency_us
  pub skew :
      Stands (chosen o.kept.skew o.raise_only file.skew_us (skew_needed (apart_us o) switches t r))
      r.row.skew_us

-- and all four keys of switches that are like those in the file but for these keys
pub record KeysTake (Stands : (taken value : ℕ) → Type 0) (o : SolveOptions)
    (file switches : List NamedRows) : Type 0 where
  pub alike : AreAlike file switches
  pub buffers : (k : ℕ) (f t : Rows) →
      tables_at file k ≡ Some f →
      tables_at switches k ≡ Some t →
      Stands (chosen o.kept.buffer o.raise_only f.buffer (least_buffer t)) t.buffer
  pub times : (k i : ℕ) (t : Rows) (f l : LinkRow) →
      tables_at switches k ≡ Some t →
      link_at file k i ≡ Some f →
      slice_get t.links i ≡ Some l →
      TimesTake Stands o switches t f (row_at k l)

-- each key is what it takes; each key is at least as much
abbrev pub IsSolution : SolveOptions → (file switches : List NamedRows) → Type 0
IsSolution = KeysTake (λ taken value. value ≡ taken)

abbrev pub IsEnough : SolveOptions → (file switches : List NamedRows) → Type 0
IsEnough = KeysTake (λ taken value. taken ≤ value)

-- ---- the least

pub record AreTimesAtMost (l m : LinkRow) : Type 0 where
  pub jitter : l.jitter_us ≤ m.jitter_us
  pub latency : l.latency_us ≤ m.latency_us
  pub skew : l.skew_us ≤ m.skew_us

-- none of the four keys is greater at these switches than at those
pub record AreAtMost (a b : List NamedRows) : Type 0 where
  pub buffers : (k : ℕ) (s t : Rows) →
      tables_at a k ≡ Some s →
      tables_at b k ≡ Some t →
      s.buffer ≤ t.buffer
  pub times : (k i : ℕ) (l m : LinkRow) →
      link_at a k i ≡ Some l →
      link_at b k i ≡ Some m →
      AreTimesAtMost l m

-- a solution, and no greater than any values that are enough
pub record IsLeastSolution (o : SolveOptions) (file switches : List NamedRows) : Type 0 where
  pub solution : IsSolution o file switches
  pub least : (others : List NamedRows) → IsEnough o file others → AreAtMost switches others

-- ---- what is true of it

-- so a key may be changed: not if it is kept, and not to less if it may only be raised
abbrev pub MayBecome : (keep raise_only : Bool) → (as_is value : ℕ) → Type 0
MayBecome true raise_only as_is value = value ≡ as_is
MayBecome false true as_is value = as_is ≤ value
MayBecome false false as_is value = Unit {0}

pub record MayHaveTimes (o : SolveOptions) (file l : LinkRow) : Type 0 where
  pub jitter : MayBecome o.kept.jitter o.raise_only file.jitter_us l.jitter_us
  pub latency : MayBecome o.kept.latency o.raise_only file.latency_us l.latency_us
  pub skew : MayBecome o.kept.skew o.raise_only file.skew_us l.skew_us

-- other switches that the file could describe in their place
pub record MayStandFor (o : SolveOptions) (file others : List NamedRows) : Type 0 where
  pub alike : AreAlike file others
  pub buffers : (k : ℕ) (f t : Rows) →
      tables_at file k ≡ Some f →
      tables_at others k ≡ Some t →
      MayBecome o.kept.buffer o.raise_only f.buffer t.buffer
  pub times : (k i : ℕ) (f l : LinkRow) →
      link_at file k i ≡ Some f →
      link_at others k i ≡ Some l →
      MayHaveTimes o f l

-- the skews of these switches allow for copies that are sent so far apart
abbrev pub AllowApart : SolveOptions → (switches : List NamedRows) → Type 0
AllowApart o switches =
    (k i : ℕ) (t : Rows) (l : LinkRow) →
    tables_at switches k ≡ Some t →
    slice_get t.links i ≡ Some l →
    way_to_system (apart_us o) switches t (row_at k l) ≤ l.skew_us

-- admitted, and the skews allow for it
pub record IsAdmittedApart (o : SolveOptions) (switches : List NamedRows) : Type 0 where
  pub admitted : IsCascadeAdmitted switches
  pub apart : AllowApart o switches

-- where copies are sent at equal times, that is admission alone
abbrev pub AdmittedAllow : Type 0
AdmittedAllow =
    (o : SolveOptions) (switches : List NamedRows) →
    o.apart ≡ 0 →
    AreSwitches switches →
    IsCascadeAdmitted switches →
    IsAdmittedApart o switches

-- none of these is admitted with such skews
abbrev pub NoneIsAdmitted : SolveOptions → (file : List NamedRows) → Type 0
NoneIsAdmitted o file =
    (others : List NamedRows) →
    AreSwitches others →
    MayStandFor o file others →
    IsAdmittedApart o others →
    ⊥

-- no cascade that is admitted with such skews and differs in keys which may be changed alone has a
-- smaller value anywhere
abbrev pub CascadeIsLeast : Type 0
CascadeIsLeast =
    (o : SolveOptions) (file solved others : List NamedRows) →
    IsLeastSolution o file solved →
    AreSwitches others →
    IsAdmittedApart o others →
    MayStandFor o file others →
    AreAtMost solved others

-- and where one of these is, the least solution is admitted
abbrev pub LeastIsAdmitted : Type 0
LeastIsAdmitted =
    (o : SolveOptions) (file solved others : List NamedRows) →
    AreSwitches solved →
    IsLeastSolution o file solved →
    AreSwitches others →
    IsAdmittedApart o others →
    MayStandFor o file others →
    IsCascadeAdmitted solved

-- there is one least solution
abbrev pub LeastIsOne : Type 0
LeastIsOne =
    (o : SolveOptions) (file a b : List NamedRows) →
    IsLeastSolution o file a →
    IsLeastSolution o file b →
    a ≡ b
