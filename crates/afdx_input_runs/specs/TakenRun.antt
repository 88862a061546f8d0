-- What a run answers that takes all of this: of a recording, or of two.
use Rattle.std.specs.Prelude.{◌≡◌, ◌⊎◌, List, ◌++◌, Some, None, Result, Ok, Err}
use Rattle.afdx_input_lines.specs.declared.fault.RunFault.{RunFault}
use Rattle.afdx_input_sources.specs.Causes.{Cause, cause_of, FailedRead, BadInput}
use Rattle.afdx_input_sources.specs.Engine.{Item}
use Rattle.afdx_input_sources.specs.declared.counts.Tally.{Tally}
use Rattle.afdx_input_sources.specs.NumberLines.{Lines}
use Rattle.afdx_input_sources.specs.Taking.{Taken}

-- it has no fault
abbrev pub HasNoFault : Taken → Type 0
HasNoFault whole = whole.fault ≡ None

-- of the whole `whole` is taken; of what was read until a read failed, what `AreCut` says; the
-- machine is given the items that the lines stand for
module _ {H : Type 0} (whole : Taken) (AreCut : Lines → Type 0)
    (items_of : Lines → List (Item H)) (done told begins : List (Item H) → Type 0) where
  -- all was taken and told, and there is no fault
  pub record AllAreTold (tally : Tally) : Type 0 where
    pub over : HasNoFault whole
    pub are_told : done (items_of whole.lines)
    pub tally_is : tally ≡ whole.tally

  -- of some first lines a beginning was told, or all
  pub record FirstAreBegun : Type 0 where
    pub past : Lines
    pub later : Lines
    pub parts : whole.lines ≡ later ++ past
    pub begun : told (items_of past) ⊎ begins (items_of past)

  -- what is answered. After a failed read, all is told of what was read
  abbrev pub TakenStops : RunFault → Cause → Type 0
  TakenStops fault FailedRead = (lines : Lines) × AreCut lines × told (items_of lines)
  TakenStops fault BadInput = (whole.fault ≡ Some fault) × told (items_of whole.lines)
  TakenStops fault _ = FirstAreBegun

  abbrev pub TakenAnswers : Result Tally RunFault → Type 0
  TakenAnswers (Ok tally) = AllAreTold tally
  TakenAnswers (Err fault) = TakenStops fault (cause_of fault)
