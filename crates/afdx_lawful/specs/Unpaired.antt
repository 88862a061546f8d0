-- What is told of a frame that waited in vain.
use Rattle.std.specs.Prelude.{◌≡◌, if◌then◌else◌, Option, Some, None}
use Rattle.afdx_frame.specs.declared.link.Side.{Side}
use Rattle.afdx_lawful.specs.Courses.{Course, told_at, told_on, told_too, waited_on}
use Rattle.afdx_lawful.specs.Judged.{is_cut_of}
use Rattle.afdx_lawful.specs.OneSide.{StandOn}
use Rattle.afdx_lawful.specs.Partners.{Waiting}
use Rattle.afdx_lawful.specs.Sides.{StandBoth}
use Rattle.afdx_lawful.specs.Sources.{Source}
use Rattle.afdx_lawful.specs.Tallies.{IsTally}
use Rattle.afdx_lawful.specs.declared.finding.SenderFinding.{SenderFinding}
use Rattle.afdx_lawful.specs.declared.finding.SenderFinding.TheVariants.{Single}
use Rattle.afdx_lawful.specs.declared.one_side.OneSide.{OneSide}
use Rattle.afdx_lawful.specs.declared.sides.BothSides.{BothSides}
use Rattle.afdx_lawful.specs.declared.tally.SourceTally.{SourceTally}
use Rattle.afdx_lawful.specs.declared.unpaired.UnpairedFrame.{UnpairedFrame}

module _ (s : Source) (c : Course) where
  -- it is told of this frame, after those that came
  pub record IsToldOf (y : Waiting) (told : UnpairedFrame) : Type 0 where
    pub line : told.line ≡ y.frame.line
    pub side : told.side ≡ y.frame.side
    pub moment : told.moment ≡ told_at s y
    pub is_cut : told.is_cut ≡ is_cut_of s c.came y

  -- it is told, counted, and not kept any more
  pub record IsToldOn (side : Side) (y : Waiting) (own others : OneSide) (tally : SourceTally)
      (told : UnpairedFrame) : Type 0 where
    pub side_is : y.frame.side ≡ side
    pub is : IsToldOf y told
    pub sides : StandOn s side c.came (waited_on (told_on s c y side)) own others
    pub tallied : IsTally s (told_on s c y side) tally

  pub record IsToldBy (y : Waiting) (both : BothSides) (tally : SourceTally) (told : UnpairedFrame)
      : Type 0 where
    pub is : IsToldOf y told
    pub sides : StandBoth s c.came (waited_on (told_too s c y)) both
    pub tallied : IsTally s (told_too s c y) tally

-- what is found of it
abbrev pub found_unpaired : UnpairedFrame → Option SenderFinding
found_unpaired told = if told.is_cut then None else Some (Single told.line)
