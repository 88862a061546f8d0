-- What the code keeps of the frames of a source on both networks.
use Rattle.std.specs.Prelude.{ℕ, ◌+◌, List, Option, length}
use Rattle.afdx_frame.specs.declared.link.Side.{Side}
use Rattle.afdx_frame.specs.declared.link.Side.TheVariants.{A, B}
use Rattle.afdx_lawful.specs.Courses.{oldest, sooner}
use Rattle.afdx_lawful.specs.OneSide.{IsNext, StandOn}
use Rattle.afdx_lawful.specs.Partners.{Waiting}
use Rattle.afdx_lawful.specs.Rings.{all_as}
use Rattle.afdx_lawful.specs.Sources.{Came, Source}
use Rattle.afdx_lawful.specs.declared.sides.BothSides.{BothSides}

-- it keeps what is known after these frames, but for those that don't wait any more
abbrev pub StandBoth : Source → List Came → (Side → List Waiting) → BothSides → Type 0
StandBoth s xs gone both = StandOn s A xs gone both.a both.b

-- one more frame, of whose time what is gone can't be a copy, but what waits can
abbrev pub AreNext : Source → Came → (Side → List Waiting) → BothSides → Type 0
AreNext s x gone both = IsNext s A x gone both.a both.b

-- those that wait on a side, the oldest first
abbrev pub ring_on : Side → BothSides → List Waiting
ring_on A both = all_as A both.a.waiting
ring_on B both = all_as B both.b.waiting

-- the oldest of both sides, that of A at one time
abbrev pub next_in : BothSides → Option Waiting
next_in both = sooner (oldest (ring_on A both)) (oldest (ring_on B both))

abbrev pub held_by : BothSides → ℕ
held_by both = length both.a.waiting + length both.b.waiting
