-- How far a stream is judged while its arrivals and frames come. Lists of them have the oldest
-- first, those of events the newest.
use Rattle.std.specs.Prelude.{◌≡◌, ℕ, ◌+◌, ◌-◌, ◌<◌, false, ⊤, min, nat_le, List, [], ◌∷◌, drop, length, Option, Some, None, if◌then◌else◌}
use Rattle.std.specs.List.{filter}
use Rattle.afdx_police.specs.Arrival.{Arrival}
use Rattle.afdx_conform.specs.Events.{closes_before, closings_in, event_time, judged_whole, moment_at}
use Rattle.afdx_conform.specs.Findings.{Judged, Marked, judged_after, judged_with, with_states}
use Rattle.afdx_conform.specs.Leeway.{reach}
use Rattle.afdx_conform.specs.States.{Event, Came, Closing, State, arrivals_came}
use Rattle.afdx_conform.specs.Streams.{Gone, Terms, latency}
use Rattle.afdx_conform.specs.declared.counts.Counts.{Counts}

-- the arrivals whose events aren't over
abbrev pub coming : List Arrival → List Event → List Arrival
coming xs over = drop (length (arrivals_came over)) xs

-- the frames that aren't closed
abbrev pub unclosed : List Gone → List Event → List Gone
unclosed ys over = drop (length (closings_in over)) ys

-- the next event of these
abbrev pub next_of : Terms → List Arrival → List Gone → Option Event
next_of z [] [] = None
next_of z [] (y ∷ ys) = Some (Closing y.time)
next_of z (x ∷ xs) [] = Some (Came x)
next_of z (x ∷ xs) (y ∷ ys) = if closes_before z y x then Some (Closing y.time) else Some (Came x)

-- each of these events was the next one
unfoldable pub AreEvents : Terms → List Arrival → List Gone → List Event → Type 0
AreEvents z xs ys [] = ⊤
AreEvents z xs ys (e ∷ before) =
    (next_of z (coming xs before) (unclosed ys before) ≡ Some e) × AreEvents z xs ys before

-- when an event may be over: at its moment; the closing of a frame at its time, behind other events
abbrev pub over_at : Terms → Event → (before : List Event) → ℕ
over_at z (Came x) before = moment_at z x.time
over_at z (Closing time) [] = moment_at z (event_time z (Closing time))
over_at z (Closing time) (e ∷ before) = event_time z (Closing time)

-- each may be over before this time
unfoldable pub AreOver : Terms → ℕ → List Event → Type 0
AreOver z time [] = ⊤
AreOver z time (e ∷ before) = (over_at z e before < time) × AreOver z time before

-- how far a stream is judged after these events
abbrev pub judged_by : Terms → List Arrival → List Gone → List Event → Judged
judged_by z xs ys over = judged_after z ys (coming xs over) over

-- the frames that aren't cut off
abbrev pub uncut : Terms → List Gone → List Gone
uncut z ys = filter (λ y. nat_le (y.time + reach z.by) z.until) ys

-- how far it is judged once all was recorded and all its events are over
abbrev pub judged_of : Terms → List Arrival → List Gone → Judged
judged_of z xs ys = judged_whole z xs (uncut z ys)

-- what of it is told: all but its states
abbrev pub shown : Judged → Judged
shown j = with_states [] j

abbrev pub nothing_judged : Judged
nothing_judged = judged_with [] [] [] 0 0 false

-- the time of the event of this moment
abbrev pub time_of : Terms → ℕ → ℕ
time_of z moment = moment - latency z - latency z - reach z.by - reach z.by

-- the number of the newest arrival
abbrev pub newest_tag : List Marked → Option ℕ
newest_tag [] = None
newest_tag (m ∷ []) = Some m.arrival.tag
newest_tag (m ∷ n ∷ more) = newest_tag (n ∷ more)

-- the number of the arrival behind which there were too many states
abbrev pub unsure_in : Judged → Option ℕ
unsure_in j = if j.is_unsure then newest_tag j.arrivals else None

-- ---- what is told of a stream at the end

-- the least number that waits in one of these states, and of this one
unfoldable pub least_from : ℕ → List State → ℕ
least_from least [] = least
least_from least (s ∷ more) = least_from (min least s.waiting) more

abbrev pub least_waiting : List State → ℕ
least_waiting [] = 0
least_waiting (s ∷ more) = least_from s.waiting more

abbrev pub counts_with : ℕ → ℕ → ℕ → Counts
counts_with explained waiting uncertain =
    record { explained = explained; waiting = waiting; uncertain = uncertain }

-- of so many frames, of which so many are cut off; nothing of a stream that is unsure
abbrev pub counts_by : ℕ → ℕ → Judged → Counts
counts_by frames cut j = if j.is_unsure then counts_with 0 0 0
    else counts_with (frames - j.frames) (cut + least_waiting j.states) j.uncertain

abbrev pub counts_of : Terms → List Arrival → List Gone → Counts
counts_of z xs ys = counts_by (length (uncut z ys)) (length ys - length (uncut z ys))
    (judged_of z xs ys)
