-- What explains a stream: which of its arrivals a right switch may have accepted, and which frame
-- is of which. All lists have the newest first.
use Rattle.std.specs.Prelude.{◌≡◌, ℕ, ◌-◌, Bool, true, false, ⊤, IsTrue, List, [], ◌∷◌, ◌++◌, Option, Some, None, if◌then◌else◌}
use Rattle.std.specs.List.{AllByRecursion}
use Rattle.afdx_frame.specs.Regulation.{Regulation}
use Rattle.afdx_police.specs.Arrival.{Arrival}
use Rattle.afdx_police.specs.Rule.{regulation_of}
use Rattle.afdx_police.specs.Verdicts.{charged_by}
use Rattle.afdx_conform.specs.Leeway.{Leeway}
use Rattle.afdx_conform.specs.Levels.{Levels, first_levels, later, charged, refused, may_pass, has_to_pass}
use Rattle.afdx_conform.specs.Streams.{Gone, Terms, fits, is_open, is_begun}

-- an arrival without a fault in its shape, and whether the switch accepted it
pub record Answered : Type 0 where
  pub arrival : Arrival
  pub accepted : Bool

abbrev pub answered : Arrival → Bool → Answered
answered x accepted = record { arrival = x; accepted = accepted }

-- those that it accepted
unfoldable pub accepted_in : List Answered → List Arrival
accepted_in [] = []
accepted_in (x ∷ before) =
    if x.accepted then x.arrival ∷ accepted_in before else accepted_in before

-- all of their arrivals
unfoldable pub arrivals_in : List Answered → List Arrival
arrivals_in [] = []
arrivals_in (x ∷ before) = x.arrival ∷ arrivals_in before

-- from when on arrivals are known
abbrev pub from_time : Option ℕ → ℕ
from_time None = 0
from_time (Some start) = start

-- the time of the newest, or the start
abbrev pub last_time : Leeway → List Arrival → ℕ
last_time by [] = from_time by.start
last_time by (x ∷ before) = x.time

module _ (z : Terms) where
  -- how the link is regulated, and what an arrival is charged, in bytes
  abbrev pub link : Regulation
  link = regulation_of z.rule

  abbrev pub charge : Arrival → ℕ
  charge x = (charged_by z.rule x).charge

  -- the account's levels after an answer
  abbrev pub levels_by : Bool → Arrival → Levels → Levels
  levels_by true x levels = charged link z.by (charge x) levels
  levels_by false x levels = refused link z.by (charge x) levels

  -- the levels when an arrival comes after one of this time
  abbrev pub levels_then : Levels → ℕ → Arrival → Levels
  levels_then levels last x = later link z.by (x.time - last) levels

  -- the levels after these answers
  unfoldable pub levels_after : List Answered → Levels
  levels_after [] = first_levels link z.by z.by.start
  levels_after (x ∷ before) = levels_by x.accepted x.arrival
      (levels_then (levels_after before) (last_time z.by (arrivals_in before)) x.arrival)

  -- an accepted arrival may have had room, a refused one may have had none
  abbrev pub IsAllowed : Levels → Bool → Arrival → Type 0
  IsAllowed levels true x = IsTrue (may_pass link z.by (charge x) levels)
  IsAllowed levels false x = has_to_pass link z.by (charge x) levels ≡ false

  -- each answer is allowed after those before it
  unfoldable pub AreAllowed : List Answered → Type 0
  AreAllowed [] = ⊤
  AreAllowed (x ∷ before) = IsAllowed
      (levels_then (levels_after before) (last_time z.by (arrivals_in before)) x.arrival)
      x.accepted x.arrival
      × AreAllowed before

  -- each frame is of an arrival, in order, but for the oldest, which are of arrivals before the
  -- start
  unfoldable pub ArePairs : List Arrival → List Gone → Type 0
  ArePairs [] frames = AllByRecursion (λ y. IsTrue (is_begun z y)) frames
  ArePairs (x ∷ xs) [] = ⊥
  ArePairs (x ∷ xs) (y ∷ ys) = IsTrue (fits z x y) × ArePairs xs ys

  -- Some answers on these arrivals explain these frames: they are allowed; of those that were
  -- accepted the newest still wait, all of them open, and each frame is of one of the others.
  pub record Explains (xs : List Arrival) (frames : List Gone) : Type 0 where
    pub answers : List Answered
    pub are_answered : arrivals_in answers ≡ xs
    pub are_allowed : AreAllowed answers
    pub waiting : List Arrival
    pub took : List Arrival
    pub accepted : accepted_in answers ≡ waiting ++ took
    pub are_open : AllByRecursion (λ x. IsTrue (is_open z x)) waiting
    pub are_pairs : ArePairs took frames
