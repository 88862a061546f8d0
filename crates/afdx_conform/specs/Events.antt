-- The events of a stream, by its arrivals and frames. Lists have the oldest first here.
use Rattle.std.specs.Prelude.{ℕ, ◌+◌, ◌≤◌, Bool, ⊤, nat_lt, List, [], ◌∷◌, map, reverse, if◌then◌else◌}
use Rattle.std.specs.List.{AllByRecursion, filter}
use Rattle.afdx_police.specs.Arrival.{Arrival}
use Rattle.afdx_conform.specs.Findings.{Found, Judged, judged_after}
use Rattle.afdx_conform.specs.Leeway.{reach}
use Rattle.afdx_conform.specs.States.{Event, Came, Closing}
use Rattle.afdx_conform.specs.Streams.{Gone, Terms, latency}

-- none of these times lies before one that stands in front of it
unfoldable pub GoUp : List ℕ → Type 0
GoUp [] = ⊤
GoUp (time ∷ more) = AllByRecursion (λ other. time ≤ other) more × GoUp more

abbrev pub arrival_times : List Arrival → List ℕ
arrival_times xs = map (λ x. x.time) xs

abbrev pub frame_times : List Gone → List ℕ
frame_times ys = map (λ y. y.time) ys

-- the times of the closings among the events
abbrev pub closings_in : List Event → List ℕ
closings_in [] = []
closings_in (Came x ∷ more) = closings_in more
closings_in (Closing time ∷ more) = time ∷ closings_in more

module _ (z : Terms) where
  -- the frame is closed before the arrival: at one time the arrival is first
  abbrev pub closes_before : Gone → Arrival → Bool
  closes_before y x = nat_lt (y.time + reach z.by) x.time

  -- the closings before an arrival, then it; `next` is what comes then
  unfoldable pub up_to : Arrival → (next : List Gone → List Event) → List Gone → List Event
  up_to x next [] = Came x ∷ next []
  up_to x next (y ∷ ys) =
      if closes_before y x then Closing y.time ∷ up_to x next ys else Came x ∷ next (y ∷ ys)

  -- its events: each arrival, and a closing for each frame
  unfoldable pub events_of : List Arrival → List Gone → List Event
  events_of [] ys = map (λ y. Closing y.time) ys
  events_of (x ∷ xs) ys = up_to x (λ rest. events_of xs rest) ys

  -- when an event is
  abbrev pub event_time : Event → ℕ
  event_time (Came x) = x.time
  event_time (Closing time) = time + reach z.by

  -- the moment of what is found at an event of this time
  abbrev pub moment_at : ℕ → ℕ
  moment_at time = time + latency z + latency z + reach z.by + reach z.by

  -- how far a stream is judged once all its events are over
  abbrev pub judged_whole : List Arrival → List Gone → Judged
  judged_whole xs ys = judged_after z ys [] (reverse (events_of xs ys))

  -- of what was found that of moments before this one
  abbrev pub found_before : ℕ → List Found → List Found
  found_before moment found = filter (λ f. nat_lt (moment_at f.time) moment) found
