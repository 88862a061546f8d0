-- A link in all events of an admitted cascade: from the frames that its first switch accepted to
-- those that leave each port of its way. Lists have the latest first, a way the last switch.
use Rattle.std.specs.Prelude.{◌≡◌, ℕ, ◌+◌, ◌*◌, ◌<◌, ◌≤◌, ◌&&◌, true, false, Option, Some}
use Rattle.std.specs.Prelude.{is_none, List, [], ◌∷◌, ◌++◌, length, map, filter, if◌then◌else◌}
use Rattle.afdx_frame.specs.Ports.{last_port}
use Rattle.afdx_frame.specs.declared.link.Side.{Side}
use Rattle.afdx_config.specs.Rows.{LinkRow, Rows}
use Rattle.afdx_config.specs.Switches.{NamedRows}
use Rattle.afdx_admit.specs.Cascade.{RowAt, row_at, row_before, is_sent_here, way_latency}
use Rattle.afdx_admit.specs.Cascade.{IsCascadeAdmitted}
use Rattle.afdx_police.specs.Arrival.{Arrival, is_side, names, own}
use Rattle.afdx_police.specs.declared.shape.Reason.{Reason}
use Rattle.afdx_switch.specs.Tables.{rule_of, goes_to}
use Rattle.afdx_switch.specs.Verdicts.{reason_of}
use Rattle.afdx_law_promises.specs.Sent.{arrivals_at}
use Rattle.afdx_cascade.specs.Admitted.{IsRow, AreRowsBefore, IsAdmittedCascade, IsListInTime}
use Rattle.afdx_cascade.specs.Cables.{brought_by, named}
use Rattle.afdx_cascade.specs.Keeping.{IsNothingDue}
use Rattle.afdx_cascade.specs.Plans.{plan_of, tables_of}
use Rattle.afdx_cascade.specs.SwitchEvents.{SwitchEvent, accepted_by, came_to, turns_of}
use Rattle.afdx_cascade.specs.Ways.{untagged, bytes_of}

-- ---- what leaves

-- the same frame, byte for byte and under the same tag, leaves later than it came, by at most so
-- many ns
pub record Leaves (delay : ℕ) (came left : Arrival) : Type 0 where
  pub tag : left.tag ≡ came.tag
  pub bytes : left.bytes ≡ came.bytes
  pub later : came.time < left.time
  pub within : left.time ≤ came.time + delay

-- each of these does, one for each, in their order
abbrev pub EachLeaves : ℕ → List Arrival → List Arrival → Type 0
EachLeaves delay [] [] = Unit {0}
EachLeaves delay [] (left ∷ after) = ⊥
EachLeaves delay (came ∷ before) [] = ⊥
EachLeaves delay (came ∷ before) (left ∷ after) =
    Leaves delay came left × EachLeaves delay before after

-- the first of these do so; the others wait
pub record FirstOfThemLeave (delay : ℕ) (came left : List Arrival) : Type 0 where
  pub waiting : List Arrival
  pub gone : List Arrival
  pub all : came ≡ waiting ++ gone
  pub leave : EachLeaves delay gone left

-- ---- end to end

-- nothing is due any more, and the frames of the list came in time
pub record AreAllEvents (switches : List NamedRows) (so_far : List SwitchEvent) : Type 0 where
  pub cascade : IsAdmittedCascade switches so_far
  pub soon : IsListInTime switches so_far
  pub none : IsNothingDue (plan_of switches) so_far

-- the row where a way begins
abbrev pub begins_at : RowAt → List RowAt → RowAt
begins_at r [] = r
begins_at r (b ∷ before) = begins_at b before

-- the frames of a row's link that the row's switch accepted on a side
abbrev pub accepted_of : List NamedRows → List SwitchEvent → Side → RowAt → List Arrival
accepted_of switches so_far side r =
    own r.row.vl side (accepted_by (tables_of switches r.switch) (came_to r.switch so_far))

-- the frames of a link that left an output port of a switch, each at the time at which it left
abbrev pub left_from : List SwitchEvent → Side → (k port vl : ℕ) → List Arrival
left_from so_far side k port vl = named vl (brought_by side port (turns_of k side port so_far))

-- the row goes to this port of its switch; these are the rows before it, and the sum of all their
-- latencies, in us
pub record IsWayTo (switches : List NamedRows) (r : RowAt) (before : List RowAt) (sum port : ℕ) :
    Type 0 where
  pub row : IsRow switches r
  pub are : AreRowsBefore switches r before
  pub latency : way_latency switches r ≡ Some sum
  pub goes : goes_to (tables_of switches r.switch) r.row port ≡ true

-- Each port to which a row of an admitted cascade goes has such a way.
abbrev pub EachPortHasAWay : Type 0
EachPortHasAWay =
    (switches : List NamedRows) (r : RowAt) (port : ℕ) →
    IsCascadeAdmitted switches →
    IsRow switches r →
    goes_to (tables_of switches r.switch) r.row port ≡ true →
    (before : List RowAt) × (sum : ℕ) × IsWayTo switches r before sum port

-- From each port of a link's way leave just the frames that its first switch accepted, in order,
-- each within the sum of the latencies.
abbrev pub LinksLeave : Type 0
LinksLeave =
    (switches : List NamedRows) (so_far : List SwitchEvent) (side : Side) (r : RowAt)
    (before : List RowAt) (sum port : ℕ) →
    AreAllEvents switches so_far →
    IsWayTo switches r before sum port →
    EachLeaves (1000 * sum) (accepted_of switches so_far side (begins_at r before))
    (left_from so_far side r.switch port r.row.vl)

-- Before all events are over these are the first of them.
abbrev pub FirstOfLinksLeave : Type 0
FirstOfLinksLeave =
    (switches : List NamedRows) (so_far : List SwitchEvent) (side : Side) (r : RowAt)
    (before : List RowAt) (sum port : ℕ) →
    IsAdmittedCascade switches so_far →
    IsWayTo switches r before sum port →
    FirstOfThemLeave (1000 * sum) (accepted_of switches so_far side (begins_at r before))
    (left_from so_far side r.switch port r.row.vl)

-- From a port to which no row of the link goes leaves none of its frames.
abbrev pub NoOthersLeave : Type 0
NoOthersLeave =
    (switches : List NamedRows) (so_far : List SwitchEvent) (side : Side) (k port vl : ℕ) →
    IsAdmittedCascade switches so_far →
    k < length switches →
    1 ≤ port →
    port ≤ last_port →
    ((l : LinkRow) → IsRow switches (row_at k l) → l.vl ≡ vl
    → goes_to (tables_of switches k) l port ≡ false) →
    left_from so_far side k port vl ≡ []

-- ---- alone

-- what becomes of a link's own arrivals on a side
abbrev pub reasons_on : Rows → (vl : ℕ) → Side → List Arrival → List (Option Reason)
reasons_on t vl side [] = []
reasons_on t vl side (x ∷ past) =
    if is_side side x.side && names vl x.bytes
    then reason_of t past x ∷ reasons_on t vl side past
    else reasons_on t vl side past

-- the frames of the list that came to a switch: those at its ports where no cable is
abbrev pub listed_at : List NamedRows → ℕ → List SwitchEvent → List Arrival
listed_at switches k so_far =
    filter (λ x. is_none ((plan_of switches).far_end k x.port)) (came_to k so_far)

-- A link's own arrivals at its first switch are of the list: no cable brings such frames there.
abbrev pub OwnAreOfList : Type 0
OwnAreOfList =
    (switches : List NamedRows) (so_far : List SwitchEvent) (side : Side) (r : RowAt) →
    IsAdmittedCascade switches so_far →
    IsRow switches r →
    is_sent_here switches r ≡ true →
    own r.row.vl side (came_to r.switch so_far)
    ≡ own r.row.vl side (listed_at switches r.switch so_far)

-- in both the list has at a link's first switch equal own arrivals of the link, but for their tags
pub record AreAlike (switches : List NamedRows) (so_far others : List SwitchEvent) (side : Side)
    (r : RowAt) : Type 0 where
  pub row : IsRow switches r
  pub sent : is_sent_here switches r ≡ true
  pub same : map untagged (own r.row.vl side (listed_at switches r.switch so_far))
      ≡ map untagged (own r.row.vl side (listed_at switches r.switch others))

-- Then they are accepted, or dropped, for the same reasons, whatever else arrives.
abbrev pub ReasonsAreAlone : Type 0
ReasonsAreAlone =
    (switches : List NamedRows) (so_far others : List SwitchEvent) (side : Side) (r : RowAt) →
    IsAdmittedCascade switches so_far →
    IsAdmittedCascade switches others →
    AreAlike switches so_far others side r →
    reasons_on (tables_of switches r.switch) r.row.vl side (came_to r.switch so_far)
    ≡ reasons_on (tables_of switches r.switch) r.row.vl side (came_to r.switch others)

-- the link has equal frames in equal order at the row's switch, and at each port to which the row
-- goes; they may come at other times
pub record IsSameLink (switches : List NamedRows) (so_far others : List SwitchEvent) (side : Side)
    (r : RowAt) : Type 0 where
  pub accepted : bytes_of (accepted_of switches so_far side r)
      ≡ bytes_of (accepted_of switches others side r)
  pub leave : (port : ℕ) →
      goes_to (tables_of switches r.switch) r.row port ≡ true →
      bytes_of (left_from so_far side r.switch port r.row.vl)
      ≡ bytes_of (left_from others side r.switch port r.row.vl)

-- And each switch of its way has the same frames of the link, whatever else arrives anywhere.
abbrev pub LinksAreAlone : Type 0
LinksAreAlone =
    (switches : List NamedRows) (so_far others : List SwitchEvent) (side : Side) (r : RowAt)
    (before : List RowAt) →
    AreAllEvents switches so_far →
    AreAllEvents switches others →
    IsRow switches r →
    AreRowsBefore switches r before →
    AreAlike switches so_far others side (begins_at r before) →
    IsSameLink switches so_far others side r

-- ---- alone, so far

module _ {X : Type 0} where
  -- all of these begin with those: the others come later
  abbrev pub BeginWith : List X → List X → Type 0
  BeginWith all first = (later : List X) × (all ≡ later ++ first)

-- the list has had at a link's first switch, but for their tags, the first of the own arrivals of
-- the link that it has there in another run
pub record BeginsAlike (switches : List NamedRows) (so_far others : List SwitchEvent) (side : Side)
    (r : RowAt) : Type 0 where
  pub row : IsRow switches r
  pub sent : is_sent_here switches r ≡ true
  pub begins : BeginWith (map untagged (own r.row.vl side (listed_at switches r.switch others)))
      (map untagged (own r.row.vl side (listed_at switches r.switch so_far)))

-- Then what became of them is what becomes of the first of those, whatever else arrives.
abbrev pub FirstReasonsAreAlone : Type 0
FirstReasonsAreAlone =
    (switches : List NamedRows) (so_far others : List SwitchEvent) (side : Side) (r : RowAt) →
    IsAdmittedCascade switches so_far →
    IsAdmittedCascade switches others →
    BeginsAlike switches so_far others side r →
    BeginWith
    (reasons_on (tables_of switches r.switch) r.row.vl side (came_to r.switch others))
    (reasons_on (tables_of switches r.switch) r.row.vl side (came_to r.switch so_far))

-- the link's frames at the row's switch, and at each port to which the row goes, are the first of
-- those of another run; they may come at other times
pub record IsFirstOfLink (switches : List NamedRows) (so_far others : List SwitchEvent)
    (side : Side) (r : RowAt) : Type 0 where
  pub accepted : BeginWith (bytes_of (accepted_of switches others side r))
      (bytes_of (accepted_of switches so_far side r))
  pub leave : (port : ℕ) →
      goes_to (tables_of switches r.switch) r.row port ≡ true →
      BeginWith (bytes_of (left_from others side r.switch port r.row.vl))
      (bytes_of (left_from so_far side r.switch port r.row.vl))

-- And each switch of its way has had the first of the frames of the link that it has by all events
-- of the other run, whatever else arrives anywhere.
abbrev pub FirstOfLinksAreAlone : Type 0
FirstOfLinksAreAlone =
    (switches : List NamedRows) (so_far others : List SwitchEvent) (side : Side) (r : RowAt)
    (before : List RowAt) →
    IsAdmittedCascade switches so_far →
    AreAllEvents switches others →
    IsRow switches r →
    AreRowsBefore switches r before →
    BeginsAlike switches so_far others side (begins_at r before) →
    IsFirstOfLink switches so_far others side r

-- ---- what a later switch accepts

-- A later switch accepts of the link just what comes at the port of the cable from the switch
-- before.
abbrev pub OnlyItsWayIsAccepted : Type 0
OnlyItsWayIsAccepted =
    (switches : List NamedRows) (so_far : List SwitchEvent) (side : Side) (r b : RowAt) →
    IsAdmittedCascade switches so_far →
    IsRow switches r →
    row_before switches r ≡ Some b →
    accepted_of switches so_far side r
    ≡ named r.row.vl (arrivals_at side (rule_of (tables_of switches r.switch) r.row).port
    (came_to r.switch so_far))
