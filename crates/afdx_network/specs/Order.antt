-- The one order of events.
use Rattle.std.specs.Prelude.{ℕ, ◌≡◌, ◌⊎◌, Bool, true, false, not, nat_lt, IsTrue, if◌then◌else◌, List, [], ◌∷◌, length, filter}
use Rattle.std.specs.List.{AllByRecursion}
use Rattle.afdx_frame.specs.declared.link.Side.{Side}
use Rattle.afdx_frame.specs.declared.link.Side.TheVariants.{A, B}
use Rattle.afdx_config.specs.Rows.{Rows}
use Rattle.afdx_police.specs.Arrival.{Arrival}
use Rattle.afdx_network.specs.Events.{Event, Came, Left, all_events, arrivals_in}

-- side A goes first
abbrev pub side_number : Side → ℕ
side_number A = 0
side_number B = 1

-- what happens at one time: frames leave, then the list's frames arrive, then frames are dropped as
-- too old
abbrev pub phase_of : (is_too_old : Bool) → ℕ
phase_of false = 0
phase_of true = 2

-- an arrival stands before the next one of its time, frames that leave or are dropped at one time
-- go by side, then by port
abbrev pub key : Event → List ℕ
key (Came c) = c.arrival.time ∷ 1 ∷ c.place ∷ []
key (Left d) = d.turn.end ∷ phase_of d.turn.too_old ∷ side_number d.side ∷ d.port ∷ d.place ∷ []

-- numbers in the order of the first one that differs
abbrev pub is_below : List ℕ → List ℕ → Bool
is_below [] [] = false
is_below [] (n ∷ ns) = true
is_below (m ∷ ms) [] = false
is_below (m ∷ ms) (n ∷ ns) =
    if nat_lt m n then true else if nat_lt n m then false else is_below ms ns

-- in the one order
abbrev pub is_before : Event → Event → Bool
is_before d e = is_below (key d) (key e)

-- each event is after those before it
abbrev pub AreInOrder : List Event → Type 0
AreInOrder [] = Unit {0}
AreInOrder (e ∷ before) = AllByRecursion (λ d. IsTrue (is_before d e)) before × AreInOrder before

-- it is one of these events
abbrev pub IsAmong : Event → List Event → Type 0
IsAmong e [] = ⊥
IsAmong e (d ∷ ds) = (e ≡ d) ⊎ IsAmong e ds

-- these are the events with a property, each of them once, in order
pub record AreThose (is_meant : Event → Type 0) (events : List Event) : Type 0 where
  pub in_order : AreInOrder events
  pub own : (e : Event) → IsAmong e events → is_meant e
  pub all : (e : Event) → is_meant e → IsAmong e events

-- these are all events of these arrivals
abbrev pub AreEvents : Rows → List Arrival → List Event → Type 0
AreEvents t arrivals events = AreThose (λ e. IsAmong e (all_events t arrivals)) events

-- it isn't after the last of these arrivals
abbrev pub is_told_by : List Arrival → Event → Bool
is_told_by [] e = false
is_told_by (x ∷ past) e = not (is_below (x.time ∷ 1 ∷ length past ∷ []) (key e))

-- these are the events of these arrivals up to the last of them
abbrev pub AreEventsSoFar : Rows → List Arrival → List Event → Type 0
AreEventsSoFar t arrivals events =
    AreThose (λ e. IsAmong e (all_events t arrivals) × IsTrue (is_told_by arrivals e)) events

-- these events are the first of all events of their arrivals: all others come after them
pub record AreFirst (t : Rows) (events : List Event) : Type 0 where
  pub in_order : AreInOrder events
  pub own : (e : Event) → IsAmong e events → IsAmong e (all_events t (arrivals_in events))
  pub rest : (e : Event) → IsAmong e (all_events t (arrivals_in events)) → IsAmong e events
      ⊎ AllByRecursion (λ d. IsTrue (is_before d e)) events

-- the latest event is an arrival, if there is any
abbrev pub IsAtArrival : List Event → Type 0
IsAtArrival [] = Unit {0}
IsAtArrival (Came c ∷ before) = Unit {0}
IsAtArrival (Left d ∷ before) = ⊥

-- the events in order, by putting each in its place
abbrev pub put_in : Event → List Event → List Event
put_in e [] = e ∷ []
put_in e (d ∷ before) = if is_before e d then d ∷ put_in e before else e ∷ d ∷ before

abbrev pub in_order : List Event → List Event
in_order [] = []
in_order (e ∷ es) = put_in e (in_order es)

-- all events of these arrivals, in order
unfoldable pub events_of : Rows → List Arrival → List Event
events_of t arrivals = in_order (all_events t arrivals)

-- those up to the last of them
unfoldable pub events_so_far : Rows → List Arrival → List Event
events_so_far t arrivals = filter (is_told_by arrivals) (events_of t arrivals)
