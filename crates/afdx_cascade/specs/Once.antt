-- On a side each switch accepts a frame at most as often as the list has it, whatever the tables
-- are. Nothing is asked of tags. Lists have the latest first.
use Rattle.std.specs.Prelude.{ℕ, ◌+◌, ◌*◌, ◌≤◌, ◌==◌, Bool, false, is_none, List, length}
use Rattle.std.specs.List.{AllByRecursion}
use Rattle.afdx_frame.specs.declared.link.Side.{Side}
use Rattle.afdx_network.specs.Events.{Event, Came, Left}
use Rattle.afdx_cascade.specs.Cascade.{StandsFor}
use Rattle.afdx_cascade.specs.SwitchEvents.{Plan, IsPlan, SwitchEvent, AlwaysKeepsRules, FrameTest, IsInPlan}
use Rattle.afdx_cascade.specs.SwitchEvents.{accepted_by, came_to, count_if, passes, listed}
use Rattle.afdx_cascade.specs.declared.cascade.Cascade.{Cascade}

-- Of the frames that pass a test, each switch accepts on a side at most as many as the list has on
-- that side.
abbrev pub AcceptsAtMostListed : Type 0
AcceptsAtMostListed =
    (c : Plan) (so_far : List SwitchEvent) (side : Side) (k : ℕ) (test : FrameTest) →
    IsPlan c →
    AlwaysKeepsRules c so_far →
    count_if (passes side test) (accepted_by (c.tables k) (came_to k so_far))
    ≤ count_if (passes side test) (listed c so_far)

-- the frames that came under this tag
abbrev pub has_tag : ℕ → FrameTest
has_tag n tag bytes = tag == n

-- So where the list has a tag once on a side, each switch accepts it at most once there.
abbrev pub AcceptsLineOnce : Type 0
AcceptsLineOnce =
    (c : Plan) (so_far : List SwitchEvent) (side : Side) (k n : ℕ) →
    IsPlan c →
    AlwaysKeepsRules c so_far →
    count_if (passes side (has_tag n)) (listed c so_far) ≤ 1 →
    count_if (passes side (has_tag n)) (accepted_by (c.tables k) (came_to k so_far)) ≤ 1

-- So for each arrival of the list there are at most 1 + 48 K events, where there are K switches:
-- with 24 of them 576 turns and 577 verdicts.
abbrev pub EventsAreFew : Type 0
EventsAreFew =
    (c : Plan) (so_far : List SwitchEvent) →
    IsPlan c →
    AlwaysKeepsRules c so_far →
    AllByRecursion (IsInPlan c) so_far →
    length so_far ≤ length (listed c so_far) + c.count * (48 * length (listed c so_far))

-- ---- the events of a cascade can be counted

-- the arrival of a frame that the switch accepted
abbrev pub is_acceptance : Event → Bool
is_acceptance (Came a) = is_none a.reason
is_acceptance (Left d) = false

-- how many of these events are that, at all switches
abbrev pub accepted_in : List SwitchEvent → ℕ
accepted_in so_far = count_if (λ h. is_acceptance h.event) so_far

pub record AreCounted (c : Plan) (so_far : List SwitchEvent) : Type 0 where
  pub events : length so_far ≤ 1153 * length (listed c so_far)
  pub accepted : accepted_in so_far ≤ 24 * length (listed c so_far)

-- Of a cascade's events there are at most 1,153 for each arrival of the list, as it has at most 24
-- switches. At most 24 of these are arrivals that a switch accepted.
abbrev pub EventsAreCounted : Type 0
EventsAreCounted =
    (c : Plan) (w : Cascade) (so_far : List SwitchEvent) →
    StandsFor c w so_far →
    AreCounted c so_far
