-- Laws over what is found.
use Rattle.std.specs.Prelude.{◌≡◌, ℕ, ◌≤◌, ◌↔◌, false, List, [], ◌∷◌, reverse}
use Rattle.std.specs.List.{AllByRecursion}
use Rattle.afdx_police.specs.Arrival.{Arrival}
use Rattle.afdx_conform.specs.Explanations.{Explains}
use Rattle.afdx_conform.specs.Findings.{judged_after, sound_events}
use Rattle.afdx_conform.specs.Laws.{IsSomeState}
use Rattle.afdx_conform.specs.States.{Event, Closing, arrivals_came, states_after, AreInOrder}
use Rattle.afdx_conform.specs.Streams.{Gone, Terms}

-- nothing is found exactly where a state is left, unless there were too many
abbrev pub FoundWhereNoneIsLeft : Type 0
FoundWhereNoneIsLeft =
    (z : Terms) (ys : List Gone) (behind : List Arrival) (events : List Event) →
    (judged_after z ys behind events).is_unsure ≡ false →
    ((judged_after z ys behind events).findings ≡ [])
    ↔ IsSomeState (states_after z ys (sound_events z events))

-- once all frames are closed, nothing is found exactly where something explains the stream
abbrev pub NothingFoundIsExplained : Type 0
NothingFoundIsExplained =
    (z : Terms) (ys : List Gone) (events : List Event) (end : ℕ) →
    AreInOrder z (sound_events z events) →
    AllByRecursion (λ y. y.time ≤ end) ys →
    (judged_after z ys [] (Closing end ∷ events)).is_unsure ≡ false →
    ((judged_after z ys [] (Closing end ∷ events)).findings ≡ [])
    ↔ Explains z (arrivals_came (sound_events z events)) (reverse ys)
