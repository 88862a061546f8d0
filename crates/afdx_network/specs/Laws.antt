-- What is true of events, and of switches that stand for events.
use Rattle.std.specs.Prelude.{◌≡◌, List, ◌++◌}
use Rattle.afdx_config.specs.Rows.{Rows}
use Rattle.afdx_police.specs.Arrival.{Arrival}
use Rattle.afdx_network.specs.Events.{Event, arrivals_in}
use Rattle.afdx_network.specs.Order.{AreEvents, AreEventsSoFar, AreFirst, IsAtArrival, events_of, events_so_far}
use Rattle.afdx_network.specs.Network.{StandsFor}
use Rattle.afdx_network.specs.declared.network.Network.{Network}

-- arrivals have all their events in one order
abbrev pub OneOrder : Type 0
OneOrder = (t : Rows) (arrivals : List Arrival) (events : List Event) →
    AreEvents t arrivals events → events ≡ events_of t arrivals

-- and so up to the last of them
abbrev pub OneOrderSoFar : Type 0
OneOrderSoFar = (t : Rows) (arrivals : List Arrival) (events : List Event) →
    AreEventsSoFar t arrivals events → events ≡ events_so_far t arrivals

abbrev pub EventsAreInOrder : Type 0
EventsAreInOrder =
    (t : Rows) (arrivals : List Arrival) → AreEvents t arrivals (events_of t arrivals)

abbrev pub EventsSoFarAreInOrder : Type 0
EventsSoFarAreInOrder =
    (t : Rows) (arrivals : List Arrival) → AreEventsSoFar t arrivals (events_so_far t arrivals)

-- the events that the switches stand for are the first of all events of their arrivals
abbrev pub EventsAreFirst : Type 0
EventsAreFirst =
    (t : Rows) (n : Network) (events : List Event) → StandsFor t n events → AreFirst t events

-- so all events of their arrivals, in order, begin with them
abbrev pub EventsBegin : Type 0
EventsBegin = (t : Rows) (n : Network) (events : List Event) → StandsFor t n events →
    (later : List Event) × (events_of t (arrivals_in events) ≡ later ++ events)

-- where the last of them is an arrival, they are the events up to it
abbrev pub EventsAreSoFar : Type 0
EventsAreSoFar = (t : Rows) (n : Network) (events : List Event) → StandsFor t n events →
    IsAtArrival events → AreEventsSoFar t (arrivals_in events) events
