-- What is so of every stream whose account is known, from a reset on.
use Rattle.std.specs.Prelude.{◌≡◌, false, List, length}
use Rattle.afdx_police.specs.Arrival.{Arrival}
use Rattle.afdx_conform.specs.Findings.{Judged, judged_after}
use Rattle.afdx_conform.specs.Headline.{IsAccountKnown}
use Rattle.afdx_conform.specs.States.{Event}
use Rattle.afdx_conform.specs.Streams.{Gone, Terms}

-- there is one state, and of no arrival both answers were right
pub record IsSure (j : Judged) : Type 0 where
  pub one : length j.states ≡ 1
  pub certain : j.uncertain ≡ 0
  pub sure : j.is_unsure ≡ false

-- however far apart the recorders are
abbrev pub ExactIsSure : Type 0
ExactIsSure =
    (z : Terms) (ys : List Gone) (behind : List Arrival) (events : List Event) →
    IsAccountKnown z →
    IsSure (judged_after z ys behind events)
