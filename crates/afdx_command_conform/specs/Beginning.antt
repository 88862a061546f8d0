-- Of all lines of some frames those that come first. Lists of frames and of lines that are due have
-- the newest first, those of lines that are told the oldest.
use Rattle.std.specs.Prelude.{ℕ, ◌≡◌, ◌<◌, ◌≤◌, nat_lt, List, [], ◌++◌, filter, Option, Some, None}
use Rattle.std.specs.List.{AllByRecursion}
use Rattle.afdx_config.specs.Rows.{Rows}
use Rattle.afdx_input_runs.specs.Joining.{Frame}
use Rattle.afdx_text.specs.declared.conform_line.ConformLine.{ConformLine}
use Rattle.afdx_command_conform.specs.Choices.{Choices}
use Rattle.afdx_command_conform.specs.Lines.{AreInOrder, Due, dues_of, last_rank, lines_of, of_key, rank}
use Rattle.afdx_command_conform.specs.declared.key.Key.{Key}

-- of all these lines of a key the last are those; each other one comes at this rank or later
pub record AreFirst (last : ℕ) (first all : List Due) : Type 0 where
  pub rest : List Due
  pub are : all ≡ rest ++ first
  pub later : AllByRecursion (λ d. last ≤ rank d) rest

module _ (t : Rows) (c : Choices) (until : ℕ) (frames : List Frame) where
  -- of all lines of these frames these are those of moments before a time
  pub record AreLinesBefore (time : ℕ) (lines : List Due) : Type 0 where
    pub own : (k : Key) → k.port < 256
        → of_key k lines ≡ filter (λ d. nat_lt d.moment time) (dues_of t c until frames k)
    pub only : (k : Key) → 256 ≤ k.port → of_key k lines ≡ []
    pub in_order : AreInOrder lines

  -- of all lines these are the first: no other one comes earlier
  pub record AreFirstLines (lines : List Due) : Type 0 where
    pub own : (k : Key) → k.port < 256
        → AreFirst (last_rank lines) (of_key k lines) (dues_of t c until frames k)
    pub only : (k : Key) → 256 ≤ k.port → of_key k lines ≡ []
    pub in_order : AreInOrder lines

-- frames of this time or later
abbrev pub ComeFrom : ℕ → List Frame → Type 0
ComeFrom time frames = AllByRecursion (λ x. time ≤ x.arrival.time) frames

-- this may be the end of the recordings: that which is said, or any from this time on
abbrev pub IsEndFrom : (said : Option ℕ) → (time end : ℕ) → Type 0
IsEndFrom None time end = time ≤ end
IsEndFrom (Some until) time end = end ≡ until

-- whatever frames come from this time on, and whenever the recordings end, of all lines of these
-- frames and of those these are so
abbrev pub WhateverComes : (so : (until : ℕ) → List Frame → List Due → Type 0) → Rows × Choices →
    (time : ℕ) → List Frame → List Due → Type 0
WhateverComes so k time frames dues = (until : ℕ) (more : List Frame)
    → IsEndFrom k.1.until time until → ComeFrom time more → so until (more ++ frames) dues

-- they are those of moments before the time
abbrev pub AreDueEarly : Rows × Choices → (time : ℕ) → List Frame → List Due → Type 0
AreDueEarly k time frames dues = WhateverComes
    (λ until all early. AreLinesBefore k.0 k.1 until all time early) k time frames dues

-- they are the first
abbrev pub AreDueFirst : Rows × Choices → (time : ℕ) → List Frame → List Due → Type 0
AreDueFirst k time frames dues = WhateverComes
    (λ until all first. AreFirstLines k.0 k.1 until all first) k time frames dues

-- these are what they say
abbrev pub AreEarly : Rows × Choices → (time : ℕ) → List Frame → List ConformLine → Type 0
AreEarly k time frames lines =
    (dues : List Due) × (lines ≡ lines_of dues) × AreDueEarly k time frames dues

abbrev pub AreBegun : Rows × Choices → (time : ℕ) → List Frame → List ConformLine → Type 0
AreBegun k time frames lines =
    (dues : List Due) × (lines ≡ lines_of dues) × AreDueFirst k time frames dues
