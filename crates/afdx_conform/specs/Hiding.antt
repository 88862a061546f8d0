-- What is sure of a stream that has an explanation, whatever the leeway. Lists have the newest
-- first.
use Rattle.std.specs.Prelude.{ℕ, ◌+◌, ◌*◌, ◌-◌, ◌≤◌, ⊤, List, [], ◌∷◌, ◌++◌}
use Rattle.afdx_frame.specs.Regulation.{bag}
use Rattle.afdx_police.specs.Arrival.{Arrival}
use Rattle.afdx_conform.specs.Explanations.{link, charge, Explains}
use Rattle.afdx_conform.specs.Headline.{GoByTime}
use Rattle.afdx_conform.specs.Leeway.{account_slip}
use Rattle.afdx_conform.specs.Levels.{parts, fastest, full}
use Rattle.afdx_conform.specs.Streams.{Gone, Terms}

module _ (z : Terms) where
  -- frames that are charged `taken` bytes, from the first to the last, keep the window rule as far
  -- as clocks and stamps can tell
  abbrev pub IsKept : Arrival → ℕ → Arrival → Type 0
  IsKept first taken last = parts * (bag (link z) * taken)
      ≤ fastest (link z) z.by * (last.time - first.time + account_slip z.by) + full (link z) z.by

  -- each window does that begins with one of these, behind which frames of `taken` bytes came
  unfoldable pub KeepsEach : Arrival → ℕ → List Arrival → Type 0
  KeepsEach last taken [] = ⊤
  KeepsEach last taken (x ∷ before) =
      IsKept x (taken + charge z x) last × KeepsEach last (taken + charge z x) before

  -- each window of these
  unfoldable pub KeepAll : List Arrival → Type 0
  KeepAll [] = ⊤
  KeepAll (x ∷ before) = KeepsEach x 0 (x ∷ before) × KeepAll before

-- what passed kept every window
abbrev pub WhatPassedKeepsWindows : Type 0
WhatPassedKeepsWindows =
    (z : Terms) (xs : List Arrival) (frames : List Gone) →
    GoByTime xs →
    (e : Explains z xs frames) →
    KeepAll z (e.waiting ++ e.took)
