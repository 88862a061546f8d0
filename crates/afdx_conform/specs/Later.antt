-- What of a stream is judged before what comes later is known.
use Rattle.std.specs.Prelude.{◌≡◌, ℕ, ◌<◌, true, false, ⊤, List, [], ◌∷◌, ◌++◌, map}
use Rattle.std.specs.List.{AllByRecursion}
use Rattle.afdx_police.specs.Arrival.{Arrival}
use Rattle.afdx_conform.specs.Ahead.{NoneIsOpen, until_then, with_more}
use Rattle.afdx_conform.specs.Events.{moment_at}
use Rattle.afdx_conform.specs.Findings.{Judged, is_far, judged_after, with_states}
use Rattle.afdx_conform.specs.States.{Event, Came, Closing}
use Rattle.afdx_conform.specs.Streams.{Gone, Terms, is_begun, is_open}

-- these frames left far behind each arrival, of which none is open; they aren't closed, and they
-- aren't begun
unfoldable pub AreFar : Terms → List Gone → List Event → Type 0
AreFar z more [] = AllByRecursion (λ y. is_begun z y ≡ false) more
AreFar z more (Came x ∷ before) = (is_open z x ≡ false)
    × AllByRecursion (λ y. is_far z x y ≡ true) more × AreFar z more before
AreFar z more (Closing time ∷ before) = AllByRecursion (λ y. time < y.time) more
    × AreFar z more before

-- the same is judged, with these frames behind what is left
abbrev pub judged_more : List Gone → Judged → Judged
judged_more more j = with_states (map (with_more more) j.states) j

-- such frames change nothing of what is found, of marks and counts
abbrev pub LaterFramesFindNothing : Type 0
LaterFramesFindNothing =
    (z : Terms) (ys more : List Gone) (behind : List Arrival) (events : List Event) →
    AreFar z more events →
    judged_after z (ys ++ more) behind events ≡ judged_more more (judged_after z ys behind events)

-- these arrivals come behind the moment of each of these
unfoldable pub ComeLater : Terms → List Arrival → List Event → Type 0
ComeLater z more [] = ⊤
ComeLater z more (Came x ∷ before) = AllByRecursion (λ w. moment_at z x.time < w.time) more
    × ComeLater z more before
ComeLater z more (Closing time ∷ before) = ComeLater z more before

-- they change nothing
abbrev pub LaterArrivalsFindNothing : Type 0
LaterArrivalsFindNothing =
    (z : Terms) (ys : List Gone) (behind more : List Arrival) (events : List Event) →
    ComeLater z more events →
    judged_after z ys (behind ++ more) events ≡ judged_after z ys behind events

-- nor does the end, while no arrival is open
abbrev pub EndFindsNothing : Type 0
EndFindsNothing =
    (z : Terms) (until : ℕ) (ys : List Gone) (behind : List Arrival) (events : List Event) →
    NoneIsOpen z events →
    NoneIsOpen (until_then until z) events →
    judged_after (until_then until z) ys behind events ≡ judged_after z ys behind events
