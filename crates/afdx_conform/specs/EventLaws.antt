-- Laws over the events of a stream. Lists have the oldest first, but those of findings.
use Rattle.std.specs.Prelude.{◌≡◌, ℕ, ◌+◌, ◌<◌, ◌≤◌, ◌↔◌, ◌⊎◌, true, false, List, [], ◌∷◌, ◌++◌, length, map, reverse}
use Rattle.std.specs.List.{AllByRecursion}
use Rattle.afdx_police.specs.Arrival.{Arrival}
use Rattle.afdx_conform.specs.Ahead.{until_then}
use Rattle.afdx_conform.specs.Events.{GoUp, arrival_times, frame_times, closings_in, closes_before, events_of, event_time, found_before, judged_whole}
use Rattle.afdx_conform.specs.Explanations.{Explains}
use Rattle.afdx_conform.specs.Findings.{Found, judged_after}
use Rattle.afdx_conform.specs.Headline.{sound_of}
use Rattle.afdx_conform.specs.Leeway.{reach}
use Rattle.afdx_conform.specs.States.{Event, arrivals_came, AreInOrder}
use Rattle.afdx_conform.specs.Streams.{Gone, Terms, is_begun}

-- each arrival and the closing of each frame are among the events, in their order and by time,
-- arrivals first
pub record AreWhole (z : Terms) (xs : List Arrival) (ys : List Gone) (events : List Event) : Type 0
  where
    pub came : arrivals_came events ≡ xs
    pub closed : closings_in events ≡ frame_times ys
    pub by_time : GoUp (map (event_time z) events)
    pub in_order : AreInOrder z (reverse events)

-- where arrivals and frames go by time
abbrev pub EventsAreWhole : Type 0
EventsAreWhole =
    (z : Terms) (xs : List Arrival) (ys : List Gone) →
    GoUp (arrival_times xs) →
    GoUp (frame_times ys) →
    AreWhole z xs ys (events_of z xs ys)

-- these arrivals and frames have their events before those
pub record ComeFirst (z : Terms) (xs : List Arrival) (ys : List Gone) (behind : List Arrival)
    (left : List Gone) : Type 0 where
  pub closed : AllByRecursion (λ y. AllByRecursion (λ x. closes_before z y x ≡ true) behind) ys
  pub came : AllByRecursion (λ x. AllByRecursion (λ y. closes_before z y x ≡ false) left) xs

-- events of the first, then those of the others
abbrev pub EventsJoin : Type 0
EventsJoin =
    (z : Terms) (xs behind : List Arrival) (ys left : List Gone) →
    ComeFirst z xs ys behind left →
    events_of z (xs ++ behind) (ys ++ left) ≡ events_of z xs ys ++ events_of z behind left

-- one of these events is at this time
abbrev pub IsTimeOf : Terms → ℕ → List Event → Type 0
IsTimeOf z time [] = ⊥
IsTimeOf z time (e ∷ more) = (event_time z e ≡ time) ⊎ IsTimeOf z time more

-- more was found at the times of these events
pub record AddsFound (z : Terms) (events : List Event) (before after : List Found) : Type 0 where
  pub found : List Found
  pub added : after ≡ found ++ before
  pub at_events : AllByRecursion (λ f. IsTimeOf z f.time events) found

-- later events take back nothing of what was found
abbrev pub FoundStays : Type 0
FoundStays =
    (z : Terms) (ys : List Gone) (behind : List Arrival) (more before : List Event) →
    AddsFound z more
    (judged_after z ys (reverse (arrivals_came more) ++ behind) before).findings
    (judged_after z ys behind (more ++ before)).findings

-- arrivals and frames that go by time, of which these are known at a moment; the events of the
-- others are at or behind it
pub record AreKnownAt (z : Terms) (moment : ℕ) (xs later : List Arrival) (ys more : List Gone)
    : Type 0 where
  pub came : GoUp (arrival_times (xs ++ later))
  pub left : GoUp (frame_times (ys ++ more))
  pub come_later : AllByRecursion (λ x. moment ≤ x.time) later
  pub leave_later : AllByRecursion (λ y. moment ≤ y.time + reach z.by) more
  pub end : moment ≤ z.until
  pub begun : (y : Gone) → moment ≤ y.time + reach z.by → is_begun z y ≡ false

-- what is found of moments before one is the same whatever comes at it or later, and whenever the
-- recordings end
abbrev pub WhatIsOverStays : Type 0
WhatIsOverStays =
    (z : Terms) (until moment : ℕ) (xs later others : List Arrival) (ys more rest : List Gone) →
    AreKnownAt z moment xs later ys more →
    AreKnownAt (until_then until z) moment xs others ys rest →
    found_before z moment (judged_whole z (xs ++ later) (ys ++ more)).findings
    ≡ found_before z moment
    (judged_whole (until_then until z) (xs ++ others) (ys ++ rest)).findings

-- once all events are over, nothing is found exactly where something explains the stream, unless
-- there were too many states
abbrev pub AllEventsAreExplained : Type 0
AllEventsAreExplained =
    (z : Terms) (xs : List Arrival) (ys : List Gone) →
    GoUp (arrival_times xs) →
    GoUp (frame_times ys) →
    (judged_whole z xs ys).is_unsure ≡ false →
    ((judged_whole z xs ys).findings ≡ [])
    ↔ Explains z (sound_of z.rule (reverse xs)) (reverse ys)

-- where something explains a stream nothing is found, also where there were too many states
abbrev pub ExplainedFindsNothing : Type 0
ExplainedFindsNothing =
    (z : Terms) (xs : List Arrival) (ys : List Gone) →
    GoUp (arrival_times xs) →
    Explains z (sound_of z.rule (reverse xs)) (reverse ys) →
    (judged_whole z xs ys).findings ≡ []

-- too many states are behind an arrival
abbrev pub UnsureIsBehindOne : Type 0
UnsureIsBehindOne =
    (z : Terms) (xs : List Arrival) (ys : List Gone) →
    (judged_whole z xs ys).is_unsure ≡ true →
    0 < length (judged_whole z xs ys).arrivals

-- where nothing is found no frame is in a finding
abbrev pub NothingFoundCountsNone : Type 0
NothingFoundCountsNone =
    (z : Terms) (xs : List Arrival) (ys : List Gone) →
    (judged_whole z xs ys).findings ≡ [] →
    (judged_whole z xs ys).frames ≡ 0
