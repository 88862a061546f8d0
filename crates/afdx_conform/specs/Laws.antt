-- Laws over the definitions.
use Rattle.std.specs.Prelude.{◌≡◌, ℕ, ◌≤◌, ◌↔◌, IsTrue, List, [], ◌∷◌, reverse}
use Rattle.std.specs.List.{AllByRecursion}
use Rattle.afdx_frame.specs.Regulation.{is_bag}
use Rattle.afdx_police.specs.Arrival.{Arrival}
use Rattle.afdx_police.specs.Verdicts.{accepted_arrivals}
use Rattle.afdx_conform.specs.Headline.{sound_of, GoByTime, IsExact, AreTheirFrames, IsAsTheHeadline}
use Rattle.afdx_conform.specs.Streams.{Gone, Terms}
use Rattle.afdx_conform.specs.Explanations.{Answered, accepted_in, arrivals_in, AreAllowed, ArePairs, Explains}
use Rattle.afdx_conform.specs.States.{Event, Closing, State, arrivals_came, states_after, AreInOrder}

-- one is among these
abbrev pub IsSomeState : List State → Type 0
IsSomeState [] = ⊥
IsSomeState (s ∷ more) = Unit {0}

-- once all frames are closed, a state is left exactly where something explains the stream
abbrev pub StatesAreExplanations : Type 0
StatesAreExplanations =
    (z : Terms) (ys : List Gone) (events : List Event) (end : ℕ) →
    AreInOrder z events →
    AllByRecursion (λ y. y.time ≤ end) ys →
    IsSomeState (states_after z ys (Closing end ∷ events))
    ↔ Explains z (arrivals_came events) (reverse ys)

-- with exact stamps and clocks, from a reset on, something explains a stream exactly where it is as
-- the headline says
abbrev pub ExactIsTheHeadline : Type 0
ExactIsTheHeadline =
    (z : Terms) (own : List Arrival) (frames : List Gone) →
    IsExact z →
    IsTrue (is_bag z.rule.bag_ms) →
    GoByTime own →
    Explains z (sound_of z.rule own) frames ↔ IsAsTheHeadline z own frames

-- and by what explains it with no arrival that waits, its frames are those of all arrivals that the
-- window rule accepts
abbrev pub ExactShowsAll : Type 0
ExactShowsAll =
    (z : Terms) (own : List Arrival) (frames : List Gone) (answers : List Answered) →
    IsExact z →
    IsTrue (is_bag z.rule.bag_ms) →
    GoByTime own →
    arrivals_in answers ≡ sound_of z.rule own →
    AreAllowed z answers →
    ArePairs z (accepted_in answers) frames →
    AreTheirFrames z (accepted_arrivals z.rule own) frames
