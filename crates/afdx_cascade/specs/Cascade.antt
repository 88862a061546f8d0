-- What the switches of a cascade have to do with the events so far.
use Rattle.std.specs.Prelude.{◌≡◌, ℕ, ◌≤◌, true, List, [], ◌∷◌, Some, None, length, slice_get}
use Rattle.std.specs.List.{AllByRecursion}
use Rattle.afdx_police.specs.Arrival.{Arrival}
use Rattle.afdx_port.specs.Times.{drain_end}
use Rattle.afdx_switch.specs.Departures.{as_given}
use Rattle.afdx_switch.specs.Verdicts.{shape_fault}
use Rattle.afdx_switch.specs.declared.verdict.Verdict.{Verdict}
use Rattle.afdx_network.specs.Events.{Departure, Left, admission_after}
use Rattle.afdx_network.specs.Network as network
use Rattle.afdx_network.specs.Order.{is_below}
use Rattle.afdx_network.specs.declared.network.Network.{Network}
use Rattle.afdx_cascade.specs.Due.{OnCable}
use Rattle.afdx_cascade.specs.Keeping.{Keeps, IsNothingDue}
use Rattle.afdx_cascade.specs.Keys.{AreKeys, IsLeast}
use Rattle.afdx_cascade.specs.Runs.{Line, IsDue, IsFirstDue, IsNextLine, arriving, event_at}
use Rattle.afdx_cascade.specs.Scan.{switches_most}
use Rattle.afdx_cascade.specs.SwitchEvents.{Plan, SwitchEvent, HaveBroughtAll, IsInPlan, came_to}
use Rattle.afdx_cascade.specs.Turning.{AreEnds, AreInTransit, IsCarried, WasEarlyBy}
use Rattle.afdx_cascade.specs.declared.cascade.Cascade.{Cascade}
use Rattle.afdx_cascade.specs.declared.told.Happened.{Happened}
use Rattle.afdx_cascade.specs.declared.told.Happened.TheVariants.{Ended, Carried, Came}
use Rattle.afdx_cascade.specs.declared.told.SitedPort.{SitedPort}

-- how many switches a side has
abbrev pub switch_count : Cascade → ℕ
switch_count w = length w.networks.items

-- networks, keys, table and ring are those that these events leave
pub record StandsFor (c : Plan) (w : Cascade) (so_far : List SwitchEvent) : Type 0 where
  pub count : switch_count w ≡ c.count
  pub some : 1 ≤ c.count
  pub few : c.count ≤ switches_most
  -- each event is at one of the switches, and each turn at one of its ports
  pub inside : AllByRecursion (IsInPlan c) so_far
  pub time : ℕ
  pub ring : List OnCable
  pub keeps : Keeps c w.networks.items time ring so_far
  -- by these keys, and the least of them, the first turn is found
  pub keys : AreKeys w.networks.items w.keys.items
  pub least : IsLeast w.keys.items w.least
  pub ends : AreEnds c w.ends.items
  pub in_transit : AreInTransit c w.transit.items ring

-- they are those that some events leave
abbrev pub IsSound : Cascade → Type 0
IsSound w = (c : Plan) × (so_far : List SwitchEvent) × StandsFor c w so_far

-- no network was used after this time, and no frame that a cable carries left after it
pub record IsUntil (w : Cascade) (time : ℕ) : Type 0 where
  pub networks : (k : ℕ) (n : Network) →
      slice_get w.networks.items k ≡ Some n →
      network.IsUntil n time
  pub transit : AllByRecursion (λ v. (as_given v.departure).end ≤ time) w.transit.items

-- `take(time)` would answer that nothing happens
pub record IsQuiet (w : Cascade) (time : ℕ) : Type 0 where
  pub networks : (k : ℕ) (n : Network) →
      slice_get w.networks.items k ≡ Some n →
      network.IsQuiet n time
  pub transit : w.transit.items ≡ []

-- networks, keys, table and ring are the same
pub record IsUnchanged (old new : Cascade) : Type 0 where
  pub networks : new.networks.items ≡ old.networks.items
  pub keys : new.keys.items ≡ old.keys.items
  pub least : new.least ≡ old.least
  pub ends : new.ends.items ≡ old.ends.items
  pub transit : new.transit.items ≡ old.transit.items

-- ---- the next event

-- what the list has next comes no earlier
abbrev pub AreFrom : ℕ → List Line → Type 0
AreFrom until [] = Unit {0}
AreFrom until (line ∷ lines) = until ≤ line.arrival.time

-- a frame that came to a port, of the list or over a cable, and what became of it
pub record TellsArrival (c : Plan) (so_far : List SwitchEvent) (at : SitedPort) (tag : ℕ)
    (verdict : Verdict) (early : ℕ) (h : SwitchEvent) : Type 0 where
  pub arrival : Arrival
  pub is : h ≡ arriving c so_far at.switch.0 arrival
  pub side : at.side ≡ arrival.side
  pub port : at.port ≡ arrival.port
  pub tag_is : tag ≡ arrival.tag
  pub tells : network.Tells verdict
      (admission_after (c.tables at.switch.0) (came_to at.switch.0 so_far) arrival)
  pub was_early : WasEarlyBy (c.tables at.switch.0) (came_to at.switch.0 so_far) arrival early

-- what is told is the event
abbrev pub TellsEvent : Plan → List SwitchEvent → Happened → SwitchEvent → Type 0
TellsEvent c so_far (Ended k value) h =
    (d : Departure) × (h ≡ event_at k.0 (Left d)) × network.Hands value d
TellsEvent c so_far (Carried at time tag) h =
    (d : Departure) × (h ≡ event_at at.switch.0 (Left d)) × IsCarried c at time tag d
TellsEvent c so_far (Came at time tag verdict early) h =
    (told : TellsArrival c so_far at tag verdict early h) × (time ≡ told.arrival.time)

-- an event is told: the next one of each list whose next frame comes at `until` or later
pub record GivesNext (c : Plan) (new : Cascade) (until : ℕ) (so_far : List SwitchEvent)
    (value : Happened) : Type 0 where
  pub event : SwitchEvent
  pub next : (lines : List Line) → AreFrom until lines → IsFirstDue c so_far lines event
  pub tells : TellsEvent c so_far value event
  pub stands : StandsFor c new (event ∷ so_far)
  pub clock : IsUntil new until

-- none is told: nothing is due before a frame of the list that comes at `until`; and late enough
-- nothing is due at all
pub record GivesNone (c : Plan) (new : Cascade) (until : ℕ) (so_far : List SwitchEvent) :
    Type 0 where
  pub none : (place : List ℕ) (g : SwitchEvent) →
      IsDue c so_far place g →
      is_below (until ∷ 2 ∷ []) place ≡ true
  pub all_done : drain_end ≤ until → IsNothingDue c so_far
  pub stands : StandsFor c new so_far
  pub clock : IsUntil new until
  pub quiet : IsQuiet new until

-- memory is lacked for an event that is still to come, by then: a turn, or a frame that isn't
-- dropped for its shape
pub record IsToCome (c : Plan) (until : ℕ) (so_far : List SwitchEvent) : Type 0 where
  pub event : SwitchEvent
  pub next : (lines : List Line) → AreFrom until lines → IsFirstDue c so_far lines event
  pub sound : (k : ℕ) (x : Arrival) →
      event ≡ arriving c so_far k x →
      shape_fault (c.tables k) x ≡ None

-- ---- a frame of the list

abbrev pub line_at : ℕ → Arrival → Line
line_at k x = record { switch = k; arrival = x }

-- it is the next event, this is its verdict, and no cable has a frame then
pub record ArrivesNext (c : Plan) (new : Cascade) (so_far : List SwitchEvent) (line : Line)
    (verdict : Verdict) : Type 0 where
  pub next : (rest : List Line) →
      IsNextLine c so_far (line ∷ rest) (arriving c so_far line.switch line.arrival) rest
  pub tells : network.Tells verdict
      (admission_after (c.tables line.switch) (came_to line.switch so_far) line.arrival)
  pub brought : HaveBroughtAll c (arriving c so_far line.switch line.arrival ∷ so_far)
  pub stands : StandsFor c new (arriving c so_far line.switch line.arrival ∷ so_far)
  pub clock : IsUntil new line.arrival.time
