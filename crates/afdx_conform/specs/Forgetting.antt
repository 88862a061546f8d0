-- Which arrivals need not be kept once their events are over.
use Rattle.std.specs.Prelude.{◌≡◌, ℕ, ◌+◌, false, List, ◌++◌}
use Rattle.std.specs.List.{AllByRecursion}
use Rattle.afdx_police.specs.Arrival.{Arrival}
use Rattle.afdx_conform.specs.Findings.{Judged, Marked, judged_with, front_rest, closed_to, came_to}
use Rattle.afdx_conform.specs.Streams.{Gone, Terms, fits}

-- none of these fits one of the frames
abbrev pub FitNone : Terms → List Gone → List Marked → Type 0
FitNone z ys gone = AllByRecursion (λ y. AllByRecursion (λ m. fits z m.arrival y ≡ false) gone) ys

-- the same is judged, with these in front of its arrivals, and so many more of which both answers
-- were right
abbrev pub with_gone : List Marked → ℕ → Judged → Judged
with_gone gone uncertain j = judged_with j.states (gone ++ j.arrivals) j.findings j.frames
    (uncertain + j.uncertain) j.is_unsure

-- arrivals that fit no frame that is left where the most are explained may be forgotten: no event
-- reads them
pub record ForgettingChangesNothing : Type 0 where
  pub came : (z : Terms) (gone : List Marked) (uncertain : ℕ) (j : Judged)
      (behind : List Arrival) (last : ℕ) (x : Arrival) →
      FitNone z (front_rest j.states) gone →
      came_to z behind last x (with_gone gone uncertain j)
      ≡ with_gone gone uncertain (came_to z behind last x j)
  pub closing : (z : Terms) (gone : List Marked) (uncertain : ℕ) (j : Judged) (time : ℕ) →
      FitNone z (front_rest j.states) gone →
      closed_to z time (with_gone gone uncertain j)
      ≡ with_gone gone uncertain (closed_to z time j)
