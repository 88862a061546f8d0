-- The way of a link through an admitted cascade, as a way over what came to each switch. Lists of
-- events have the latest first, a way the last switch.
use Rattle.std.specs.Prelude.{◌≡◌, ℕ, ◌*◌, ◌<◌, ◌≤◌, true, None, Some}
use Rattle.std.specs.Prelude.{List, [], ◌∷◌, ◌++◌, length, map}
use Rattle.std.specs.List.{AllByRecursion}
use Rattle.afdx_frame.specs.declared.link.Side.{Side}
use Rattle.afdx_config.specs.Rows.{LinkRow}
use Rattle.afdx_config.specs.Switches.{NamedRows, AreSwitches}
use Rattle.afdx_admit.specs.AtSwitch.{link_at}
use Rattle.afdx_admit.specs.Cascade.{RowAt, row_before, is_sent_here, way_latency}
use Rattle.afdx_admit.specs.Cascade.{IsCascadeAdmitted}
use Rattle.afdx_police.specs.Arrival.{Arrival, names}
use Rattle.afdx_law_bounds.specs.Outputs.{AreTimed}
use Rattle.afdx_switch.specs.Tables.{rule_of}
use Rattle.afdx_switch.specs.Verdicts.{reason_of}
use Rattle.afdx_cascade.specs.Cables.{Hop}
use Rattle.afdx_cascade.specs.Cascade.{StandsFor}
use Rattle.afdx_cascade.specs.Keeping.{IsNothingDue}
use Rattle.afdx_cascade.specs.Plans.{plan_of, tables_of}
use Rattle.afdx_cascade.specs.SwitchEvents.{End, SwitchEvent, AlwaysKeepsRules, came_to, listed}
use Rattle.afdx_cascade.specs.Ways.{IsWay, IsWhole, latency_of}
use Rattle.afdx_cascade.specs.declared.cascade.Cascade.{Cascade}

-- ---- the rows of a way

-- it stands among the links of its switch
pub record IsRow (switches : List NamedRows) (r : RowAt) : Type 0 where
  pub place : ℕ
  pub stands : link_at switches r.switch place ≡ Some r.row

-- the rows of its link on the way to this one, back to the one that a system sends
abbrev pub AreRowsBefore : List NamedRows → RowAt → List RowAt → Type 0
AreRowsBefore switches r [] = is_sent_here switches r ≡ true
AreRowsBefore switches r (b ∷ before) =
    (row_before switches r ≡ Some b) × AreRowsBefore switches b before

-- there are such rows, at fewer switches than a side has
pub record IsFed (switches : List NamedRows) (r : RowAt) : Type 0 where
  pub before : List RowAt
  pub are : AreRowsBefore switches r before
  pub few : length before < length switches

-- So it is for each row of an admitted cascade.
abbrev pub EachRowIsFed : Type 0
EachRowIsFed =
    (switches : List NamedRows) (r : RowAt) →
    IsCascadeAdmitted switches →
    IsRow switches r →
    IsFed switches r

-- They are its one way.
abbrev pub RowsBeforeAreOne : Type 0
RowsBeforeAreOne =
    (switches : List NamedRows) (r : RowAt) (before others : List RowAt) →
    AreRowsBefore switches r before →
    AreRowsBefore switches r others →
    before ≡ others

-- ---- what came

-- the switches are admitted; what came to each came by time; and turns and cables kept to their
-- rules
pub record IsAdmittedCascade (switches : List NamedRows) (so_far : List SwitchEvent) : Type 0 where
  pub are : AreSwitches switches
  pub admitted : IsCascadeAdmitted switches
  pub timed : (k : ℕ) → k < length switches → AreTimed (came_to k so_far)
  pub rules : AlwaysKeepsRules (plan_of switches) so_far

-- So it is for all that a cascade of such switches stands for.
abbrev pub CascadeIsAdmitted : Type 0
CascadeIsAdmitted =
    (switches : List NamedRows) (w : Cascade) (so_far : List SwitchEvent) →
    AreSwitches switches →
    IsCascadeAdmitted switches →
    StandsFor (plan_of switches) w so_far →
    IsAdmittedCascade switches so_far

-- ---- the way

-- the link of a row at the row's switch, with all that came there
abbrev pub hop_at : List NamedRows → List SwitchEvent → RowAt → Hop
hop_at switches so_far r = record {
  tables = tables_of switches r.switch;
  link = r.row;
  arrivals = came_to r.switch so_far;
}

abbrev pub hops_at : List NamedRows → List SwitchEvent → List RowAt → List Hop
hops_at switches so_far rows = map (hop_at switches so_far) rows

-- The sum of a way's latencies is what its rows are admitted with: in ns, and in us.
abbrev pub WayTakesItsLatency : Type 0
WayTakesItsLatency =
    (switches : List NamedRows) (so_far : List SwitchEvent) (r : RowAt) (before : List RowAt)
    (sum : ℕ) →
    AreRowsBefore switches r before →
    way_latency switches r ≡ Some sum →
    latency_of (hops_at switches so_far (r ∷ before)) ≡ 1000 * sum

-- The rows of a link are a way of its frames.
abbrev pub RowsAreWays : Type 0
RowsAreWays =
    (switches : List NamedRows) (so_far : List SwitchEvent) (side : Side) (r : RowAt)
    (before : List RowAt) →
    IsAdmittedCascade switches so_far →
    IsRow switches r →
    AreRowsBefore switches r before →
    IsWay side (hop_at switches so_far r) (hops_at switches so_far before)

-- the latest time of a frame of the list, in ns
abbrev pub latest_listed : ℕ
latest_listed = 1000000000000000

-- the frames of the list came by then
abbrev pub IsListInTime : List NamedRows → List SwitchEvent → Type 0
IsListInTime switches so_far =
    AllByRecursion (λ x. x.time ≤ latest_listed) (listed (plan_of switches) so_far)

-- Where nothing is due any more the way is whole: each cable has brought all that its port gives.
abbrev pub RowsAreWholeWays : Type 0
RowsAreWholeWays =
    (switches : List NamedRows) (so_far : List SwitchEvent) (side : Side) (r : RowAt)
    (before : List RowAt) →
    IsAdmittedCascade switches so_far →
    IsRow switches r →
    AreRowsBefore switches r before →
    IsListInTime switches so_far →
    IsNothingDue (plan_of switches) so_far →
    (way : IsWay side (hop_at switches so_far r) (hops_at switches so_far before))
    × IsWhole side (hop_at switches so_far r) (hops_at switches so_far before) way

-- ---- what cables bring

-- the frame names a link of the switch whose frames come in at the port where it came
pub record IsRead (switches : List NamedRows) (k : ℕ) (x : Arrival) : Type 0 where
  pub link : LinkRow
  pub row : IsRow switches (record { switch = k; row = link })
  pub named : names link.vl x.bytes ≡ true
  pub port : (rule_of (tables_of switches k) link).port ≡ x.port

-- So it is for each frame that a cable brings, and the switch accepts it.
abbrev pub CablesAreRead : Type 0
CablesAreRead =
    (switches : List NamedRows) (so_far : List SwitchEvent) (k : ℕ) (later past : List Arrival)
    (x : Arrival) (other : End) →
    IsAdmittedCascade switches so_far →
    came_to k so_far ≡ later ++ x ∷ past →
    (plan_of switches).far_end k x.port ≡ Some other →
    IsRead switches k x × (reason_of (tables_of switches k) past x ≡ None)
