-- One of something for each of the two networks.
use Rattle.afdx_frame.specs.declared.by_side.BySide.{BySide}
use Rattle.afdx_frame.specs.declared.link.Side.{Side}
use Rattle.afdx_frame.specs.declared.link.Side.TheVariants.{A, B}

module _ {X : Type 0} where
  -- that of a side
  abbrev pub on : Side → BySide X → X
  on A both = both.a
  on B both = both.b

  -- both, with another one for a side
  abbrev pub with_on : Side → BySide X → X → BySide X
  with_on A both x = record { a = x; b = both.b }
  with_on B both x = record { a = both.a; b = x }
