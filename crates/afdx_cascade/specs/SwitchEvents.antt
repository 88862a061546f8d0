-- What happens in a cascade: several switches on each side, joined by cables. Lists have the latest
-- first.
use Rattle.std.specs.Prelude.{◌≡◌, ℕ, ◌<◌, ◌≤◌, ◌==◌, ◌&&◌, suc, Bool, is_none, not, nat_lt, filter, if◌then◌else◌, Option, Some, List, [], ◌∷◌, ◌++◌}
use Rattle.afdx_frame.specs.Ports.{last_port}
use Rattle.afdx_frame.specs.declared.link.Side.{Side}
use Rattle.afdx_config.specs.Lawful.{IsLawfulSwitch}
use Rattle.afdx_config.specs.Rows.{Rows}
use Rattle.afdx_police.specs.Arrival.{Arrival, is_side}
use Rattle.afdx_port.specs.Schedule.{Turn, AreTurns}
use Rattle.afdx_port.specs.Times.{latest_put}
use Rattle.afdx_switch.specs.HeldFrames.{HeldFrame}
use Rattle.afdx_switch.specs.Switching.{taken_at}
use Rattle.afdx_switch.specs.Tables.{byte_ns_at, entries_at}
use Rattle.afdx_switch.specs.Verdicts.{reason_of}
use Rattle.afdx_network.specs.Events.{Event, Came, Left, arrivals_in, turns_on}
use Rattle.afdx_law_promises.specs.Sent.{arrivals_at}
use Rattle.afdx_cascade.specs.Cables.{brought_by}

-- ---- the plan

-- an end of a cable: a port of a switch. Switches are numbered from 0
pub record End : Type 0 where
  pub switch : ℕ
  pub port : ℕ

abbrev pub end_at : ℕ → ℕ → End
end_at k port = record { switch = k; port = port }

-- how many switches each side has, the tables of each, and the other end of the cable at a port, if
-- one is there
pub record Plan : Type 0 where
  pub count : ℕ
  pub tables : ℕ → Rows
  pub far_end : ℕ → ℕ → Option End

-- all tables are lawful, and a cable that ends at a port begins at the port where it leads back to
pub record IsPlan (c : Plan) : Type 0 where
  pub lawful : (k : ℕ) → IsLawfulSwitch (c.tables k)
  pub ports : (k port : ℕ) (e : End) →
      c.far_end k port ≡ Some e →
      (1 ≤ e.port) × (e.port ≤ last_port) × (c.far_end e.switch e.port ≡ Some (end_at k port))

-- ---- what happens

-- an event at a switch
pub record SwitchEvent : Type 0 where
  pub switch : ℕ
  pub event : Event

-- it is at one of the switches, and a turn at one of its ports
abbrev pub HasPort : Event → Type 0
HasPort (Came a) = Unit {0}
HasPort (Left d) = (1 ≤ d.port) × (d.port ≤ last_port)

abbrev pub IsInPlan : Plan → SwitchEvent → Type 0
IsInPlan c h = (h.switch < c.count) × HasPort h.event

-- the events at one switch
abbrev pub at_switch : ℕ → List SwitchEvent → List Event
at_switch k [] = []
at_switch k (h ∷ before) =
    if h.switch == k then h.event ∷ at_switch k before else at_switch k before

-- what came to it, and the turns that an output port of its had
abbrev pub came_to : ℕ → List SwitchEvent → List Arrival
came_to k so_far = arrivals_in (at_switch k so_far)

abbrev pub turns_of : ℕ → Side → ℕ → List SwitchEvent → List (Turn HeldFrame)
turns_of k side port so_far = taken_at port (turns_on side (at_switch k so_far))

-- those that were over by the latest time at which a frame may arrive: what leaves later arrives
-- nowhere
abbrev pub in_clock : List (Turn HeldFrame) → List (Turn HeldFrame)
in_clock turns = filter (λ s. not (nat_lt latest_put s.end)) turns

-- what a cable brought to its end here is the first of what left the port at its other end; the
-- rest is still to arrive
pub record Carries (side : Side) (k port : ℕ) (other : End) (so_far : List SwitchEvent) :
    Type 0 where
  pub waiting : List Arrival
  pub brings : brought_by side port (in_clock (turns_of other.switch side other.port so_far))
      ≡ waiting ++ arrivals_at side port (came_to k so_far)

-- no cable has a frame: each has brought all that left the port at its other end
abbrev pub HaveBroughtAll : Plan → List SwitchEvent → Type 0
HaveBroughtAll c so_far =
    (k port : ℕ) (side : Side) (other : End) →
    c.far_end k port ≡ Some other →
    brought_by side port (in_clock (turns_of other.switch side other.port so_far))
    ≡ arrivals_at side port (came_to k so_far)

-- the turns are those of what came so far, and cables bring what left
pub record KeepsRules (c : Plan) (so_far : List SwitchEvent) : Type 0 where
  pub turns : (k port : ℕ) (side : Side) →
      1 ≤ port →
      port ≤ last_port →
      AreTurns (byte_ns_at (c.tables k) port)
      (entries_at (c.tables k) side port (came_to k so_far)) (turns_of k side port so_far)
  pub cables : (k port : ℕ) (side : Side) (other : End) →
      c.far_end k port ≡ Some other →
      Carries side k port other so_far

-- and so it was at each moment before
abbrev pub AlwaysKeepsRules : Plan → List SwitchEvent → Type 0
AlwaysKeepsRules c [] = Unit {0}
AlwaysKeepsRules c (h ∷ before) = KeepsRules c (h ∷ before) × AlwaysKeepsRules c before

-- ---- the list

-- an event that is the arrival of a frame of the list: at a port where no cable is
abbrev pub with_listed : Plan → ℕ → Event → List Arrival → List Arrival
with_listed c k (Came a) rest =
    if is_none (c.far_end k a.arrival.port) then a.arrival ∷ rest else rest
with_listed c k (Left d) rest = rest

-- those arrivals
abbrev pub listed : Plan → List SwitchEvent → List Arrival
listed c [] = []
listed c (h ∷ before) = with_listed c h.switch h.event (listed c before)

-- ---- once at a switch

-- how many of these pass a test
abbrev pub count_if : {X : Type 0} → (X → Bool) → List X → ℕ
count_if test [] = 0
count_if test (x ∷ xs) = if test x then suc (count_if test xs) else count_if test xs

-- a test of a frame by its tag and its bytes, of what comes on a side
abbrev pub FrameTest : Type 0
FrameTest = ℕ → List ℕ → Bool

abbrev pub passes : Side → FrameTest → Arrival → Bool
passes side test x = is_side side x.side && test x.tag x.bytes

-- those arrivals that a switch accepts, of all links
abbrev pub accepted_by : Rows → List Arrival → List Arrival
accepted_by t [] = []
accepted_by t (x ∷ past) =
    if is_none (reason_of t past x) then x ∷ accepted_by t past else accepted_by t past
