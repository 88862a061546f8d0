-- A right sender, in true time, as both networks show it. Lists have the newest first.
use Rattle.std.specs.Prelude.{◌≡◌, ◌⊎◌, ℕ, zero, suc, ◌+◌, ◌<◌, ◌≤◌, Option, Some, None, List, [], ◌∷◌, length}
use Rattle.afdx_frame.specs.declared.link.Side.{Side}
use Rattle.afdx_frame.specs.declared.link.Side.TheVariants.{A, B}
use Rattle.afdx_conform.specs.Leeways.{IsLeeway}
use Rattle.afdx_conform.specs.Right.{GoesOn}
use Rattle.afdx_police.specs.Rule.{IsRule}
use Rattle.afdx_lawful.specs.Accepted.{ComeUpTo}
use Rattle.afdx_lawful.specs.Flaws.{common}
use Rattle.afdx_lawful.specs.Judged.{found_coming, found_single, judged_source}
use Rattle.afdx_lawful.specs.Ranges.{most_apart}
use Rattle.afdx_lawful.specs.Right.{Follows, IsSent, Sent}
use Rattle.afdx_lawful.specs.Sources.{Came, Source, apart_by, on_side}

-- A source's values are such as tables and options have: those of its rule and of its leeway are in
-- their ranges, and copies are asked to be sent no further apart than 100 ms.
pub record IsInRange (s : Source) : Type 0 where
  pub rule : IsRule s.rule
  pub leeway : IsLeeway s.by
  pub apart : (bytes : ℕ) → apart_by s s.given bytes ≤ most_apart

-- of frames by their places from 0 on, so many from a place on, as they came
abbrev pub came_from : (ℕ → Sent) → (first : ℕ) → (count : ℕ) → List Came
came_from sent first zero = []
came_from sent first (suc n) = (sent (first + n)).came ∷ came_from sent first n

-- a time before the start of the recordings, if they have one
abbrev pub IsBefore : Option ℕ → ℕ → Type 0
IsBefore None time = ⊥
IsBefore (Some start) time = time < start

module _ (s : Source) where
  -- Two frames are copies: the same but for the byte of the network and the check sequence, and
  -- sent at most so far apart by their system's clock as they may be. From one to the other, of
  -- which either may be the first, that clock went on as it may.
  pub record AreSentTwice (x y : Sent) : Type 0 where
    pub same : common x.came.bytes ≡ common y.came.bytes
    pub x_soon : x.clock ≤ y.clock + apart_by s s.given (length x.came.bytes)
    pub y_soon : y.clock ≤ x.clock + apart_by s s.given (length y.came.bytes)
    pub goes_on : GoesOn s.by x.moment x.clock y.moment y.clock
        ⊎ GoesOn s.by y.moment y.clock x.moment x.clock

-- A system sent messages on both networks since its reset. On each the frame at a place has the
-- number of that place, and is released a gap or more after the one before it; those at one place
-- are copies. Of each network the frames from one place up to another were recorded, and no others:
-- what came before has a stamp before the start, what came behind has one behind the end.
pub record IsRightTwice (s : Source) (xs : List Came) : Type 0 where
  pub count : ℕ
  pub sent : Side → ℕ → Sent
  pub on : (side : Side) (k : ℕ) → k < count → (sent side k).came.side ≡ side
  pub lawful : (side : Side) (k : ℕ) → k < count → IsSent s k (sent side k)
  pub follow : (side : Side) (k : ℕ) →
      k + 1 < count →
      Follows s (sent side k) (sent side (k + 1))
  pub copies : (k : ℕ) → k < count → AreSentTwice s (sent A k) (sent B k)
  pub first : Side → ℕ
  pub seen : Side → ℕ
  pub within : (side : Side) → first side + seen side ≤ count
  pub recorded : (side : Side) →
      on_side side xs ≡ came_from (sent side) (first side) (seen side)
  pub before : (side : Side) (k : ℕ) →
      k < first side →
      IsBefore s.by.start (sent side k).came.time
  pub behind : (side : Side) (k : ℕ) →
      first side + seen side ≤ k →
      k < count →
      s.until < (sent side k).came.time

-- nothing is found of a source: neither when a frame comes, nor of one that waited for its copy
pub record NothingIsFound (s : Source) (xs : List Came) : Type 0 where
  pub coming : found_coming s xs ≡ []
  pub single : (side : Side) → found_single s side xs ≡ []

-- so it is of a right sender, if its frames were recorded by time up to the end
abbrev pub RightIsNeverAccused : Type 0
RightIsNeverAccused =
    (s : Source) (xs : List Came) →
    IsInRange s →
    ComeUpTo s.until xs →
    IsRightTwice s xs →
    NothingIsFound s xs

-- where nothing is found of a source, each of its frames counts as sent
abbrev pub NothingFoundIsSent : Type 0
NothingFoundIsSent =
    (s : Source) (xs : List Came) →
    NothingIsFound s xs →
    (judged_source s xs).sent ≡ length xs
