-- What an admitted cascade keeps from end to end, whatever its list. Lists have the latest first, a
-- way the last switch.
use Rattle.std.specs.Prelude.{◌≡◌, ℕ, ◌*◌, ◌<◌, ◌≤◌, None, Some, false, List, [], ◌∷◌, ◌++◌, length}
use Rattle.afdx_frame.specs.Ports.{last_port}
use Rattle.afdx_frame.specs.declared.link.Side.{Side}
use Rattle.afdx_admit.specs.Cascade.{RowAt, row_at}
use Rattle.afdx_config.specs.Rows.{LinkRow}
use Rattle.afdx_config.specs.Switches.{NamedRows}
use Rattle.afdx_police.specs.Arrival.{Arrival}
use Rattle.afdx_switch.specs.Tables.{goes_to}
use Rattle.afdx_switch.specs.Verdicts.{reason_of}
use Rattle.afdx_cascade.specs.Admitted.{IsRow, AreRowsBefore, IsAdmittedCascade}
use Rattle.afdx_cascade.specs.EndToEnd.{AreAllEvents, IsWayTo, EachLeaves, FirstOfThemLeave}
use Rattle.afdx_cascade.specs.EndToEnd.{AreAlike, IsSameLink, accepted_of, begins_at, left_from}
use Rattle.afdx_cascade.specs.EndToEnd.{BeginWith, BeginsAlike, IsFirstOfLink, reasons_on}
use Rattle.afdx_cascade.specs.Plans.{plan_of, tables_of}
use Rattle.afdx_cascade.specs.Receivers.{EachIsHeardOnce, EachIsHeardOnceSoFar, OneSideIsHeard}
use Rattle.afdx_cascade.specs.Receivers.{FirstAreHeard, HaveBegun}
use Rattle.afdx_cascade.specs.SwitchEvents.{End, SwitchEvent, came_to}

-- ---- each part

-- each switch accepts each frame that a cable brings
abbrev pub AcceptsAgain : List NamedRows → List SwitchEvent → Type 0
AcceptsAgain switches so_far =
    (k : ℕ) (later past : List Arrival) (x : Arrival) (other : End) →
    came_to k so_far ≡ later ++ x ∷ past →
    (plan_of switches).far_end k x.port ≡ Some other →
    reason_of (tables_of switches k) past x ≡ None

-- from a port to which no row of a link goes leaves none of its frames
abbrev pub NoneLeaveElsewhere : List NamedRows → List SwitchEvent → Type 0
NoneLeaveElsewhere switches so_far =
    (side : Side) (k port vl : ℕ) →
    k < length switches →
    1 ≤ port →
    port ≤ last_port →
    ((l : LinkRow) → IsRow switches (row_at k l) → l.vl ≡ vl
    → goes_to (tables_of switches k) l port ≡ false) →
    left_from so_far side k port vl ≡ []

-- a link whose own arrivals of the list at its first switch are equal in another run, but for their
-- tags, has equal verdicts on them there and here, whatever else arrives
abbrev pub VerdictsAreAlone : List NamedRows → List SwitchEvent → Type 0
VerdictsAreAlone switches so_far =
    (another : List SwitchEvent) (side : Side) (r : RowAt) →
    IsAdmittedCascade switches another →
    AreAlike switches so_far another side r →
    reasons_on (tables_of switches r.switch) r.row.vl side (came_to r.switch so_far)
    ≡ reasons_on (tables_of switches r.switch) r.row.vl side (came_to r.switch another)

-- where they are the first of those of another run, so are its verdicts on them
abbrev pub FirstVerdictsAreAlone : List NamedRows → List SwitchEvent → Type 0
FirstVerdictsAreAlone switches so_far =
    (another : List SwitchEvent) (side : Side) (r : RowAt) →
    IsAdmittedCascade switches another →
    BeginsAlike switches so_far another side r →
    BeginWith
    (reasons_on (tables_of switches r.switch) r.row.vl side (came_to r.switch another))
    (reasons_on (tables_of switches r.switch) r.row.vl side (came_to r.switch so_far))

-- ---- all events

pub record KeepsEndToEnd (switches : List NamedRows) (events : List SwitchEvent) : Type 0 where
  -- accepted once is accepted everywhere
  pub accepted : AcceptsAgain switches events
  -- from each port to which a link's row goes leave just the link's frames that the first switch of
  -- its way accepted: in order, each later and within the sum of the latencies
  pub ends : (side : Side) (r : RowAt) (before : List RowAt) (sum port : ℕ) →
      IsWayTo switches r before sum port →
      EachLeaves (1000 * sum) (accepted_of switches events side (begins_at r before))
      (left_from events side r.switch port r.row.vl)
  -- and from the others leaves none of the link's
  pub others : NoneLeaveElsewhere switches events
  -- alone: equal own arrivals have equal verdicts at the first switch
  pub verdicts : VerdictsAreAlone switches events
  -- and give the link equal frames at each switch and port of its way
  pub same : (another : List SwitchEvent) (side : Side) (r : RowAt) (before : List RowAt) →
      AreAllEvents switches another →
      IsRow switches r →
      AreRowsBefore switches r before →
      AreAlike switches events another side (begins_at r before) →
      IsSameLink switches events another side r
  -- exactly once: each receiver, at whichever switch, is told each message of a lawful stream to
  -- its UDP ports once and in order, also where one side fails, and as far as one has come
  pub once : EachIsHeardOnce switches events
  pub one_side : OneSideIsHeard switches events
  pub once_so_far : EachIsHeardOnceSoFar switches events

-- So it is of all events.
abbrev pub CascadeKeepsEndToEnd : Type 0
CascadeKeepsEndToEnd =
    (switches : List NamedRows) (events : List SwitchEvent) →
    AreAllEvents switches events →
    KeepsEndToEnd switches events

-- ---- before all events are over

pub record KeepsEndToEndSoFar (switches : List NamedRows) (so_far : List SwitchEvent) :
    Type 0 where
  pub accepted : AcceptsAgain switches so_far
  -- what left a port of a link's way is the first of the frames that its first switch accepted
  pub ends : (side : Side) (r : RowAt) (before : List RowAt) (sum port : ℕ) →
      IsWayTo switches r before sum port →
      FirstOfThemLeave (1000 * sum) (accepted_of switches so_far side (begins_at r before))
      (left_from so_far side r.switch port r.row.vl)
  pub others : NoneLeaveElsewhere switches so_far
  pub verdicts : VerdictsAreAlone switches so_far
  pub first_verdicts : FirstVerdictsAreAlone switches so_far
  -- own arrivals that are the first of those of another run have given the link the first of the
  -- frames that it has by all events there, at each switch and port of its way
  pub same : (another : List SwitchEvent) (side : Side) (r : RowAt) (before : List RowAt) →
      AreAllEvents switches another →
      IsRow switches r →
      AreRowsBefore switches r before →
      BeginsAlike switches so_far another side (begins_at r before) →
      IsFirstOfLink switches so_far another side r
  -- what a receiver was told of a lawful stream are the first of its messages: as far as its frames
  -- left for the receiver on one of the sides
  pub first : FirstAreHeard switches so_far

-- So it is of first events.
abbrev pub CascadeKeepsSoFar : Type 0
CascadeKeepsSoFar =
    (switches : List NamedRows) (so_far : List SwitchEvent) →
    IsAdmittedCascade switches so_far →
    HaveBegun switches so_far →
    KeepsEndToEndSoFar switches so_far
