-- What is known of a source of lines that times the numbers of another, from call to call.
use Rattle.std.specs.Prelude.{◌≡◌, ◌⊎◌, ◌∷◌, Some, None}
use Rattle.afdx_input_lines.specs.declared.fault.RunFault.{RunFault}
use Rattle.afdx_input_sources.specs.Engine.{Item, item_of}
use Rattle.afdx_input_sources.specs.declared.clock.Clock.{Clock}
use Rattle.afdx_input_sources.specs.declared.number.Number.{Number}
use Rattle.afdx_input_sources.specs.declared.number_line.NumberLine.{NumberLine}
use Rattle.afdx_input_sources.specs.declared.timed_numbers.TimedNumbers.{TimedNumbers}
use Rattle.afdx_input_sources.specs.NumberLines.{Lines}
use Rattle.afdx_input_sources.specs.Sequences.{Numbers}
use Rattle.afdx_input_sources.specs.Taking.{late_of_one}
use Rattle.afdx_input_sources.specs.Timing.{origin_in, timed}

-- these lines are those of these numbers, and the clock knows which moment is time 0
pub record AreTimed (late : Item Number → RunFault) (clock : Clock) (numbers : Numbers)
    (lines : Lines) : Type 0 where
  pub timed_as : timed late clock.said numbers ≡ record { lines = lines; fault = None }
  pub zero : clock.zero ≡ origin_in clock.said numbers

-- the newest of these numbers is too late, and these are the lines of those before it
pub record IsTooLate (late : Item Number → RunFault) (clock : Clock) (numbers : Numbers)
    (lines : Lines) (fault : RunFault) : Type 0 where
  pub timed_as : timed late clock.said numbers ≡ record { lines = lines; fault = Some fault }

-- the line that was given last, of the number that the source gave last
abbrev pub line_given : {S : Type 0} → (S → Item Number) → TimedNumbers S → Item NumberLine
line_given current source =
    item_of (current source.numbers).number source.line (current source.numbers).bytes

module _ {S I : Type 0} (gave ended : I → S → I → Numbers → Type 0) where
  pub record HasTimed (start : I) (source : TimedNumbers S) (input : I) (lines : Lines)
      : Type 0 where
    pub numbers : Numbers
    pub gave_them : gave start source.numbers input numbers
    pub are_timed : AreTimed late_of_one source.clock numbers lines

  pub record HasTimedAll (start : I) (source : TimedNumbers S) (input : I) (lines : Lines)
      : Type 0 where
    pub numbers : Numbers
    pub ended_so : ended start source.numbers input numbers
    pub are_timed : AreTimed late_of_one source.clock numbers lines

  module _ (stopped : I → S → I → Numbers → RunFault → Type 0) where
    -- the source stopped
    pub record HasStoppedBehind (start : I) (source : TimedNumbers S) (input : I) (lines : Lines)
        (fault : RunFault) : Type 0 where
      pub numbers : Numbers
      pub stopped_so : stopped start source.numbers input numbers fault
      pub are_timed : AreTimed late_of_one source.clock numbers lines

    -- or the number that it gave last is too late
    pub record HasStoppedLate (start : I) (source : TimedNumbers S) (input : I) (lines : Lines)
        (fault : RunFault) : Type 0 where
      pub before : Numbers
      pub x : Item Number
      pub gave_them : gave start source.numbers input (x ∷ before)
      pub fault_is : fault ≡ late_of_one x
      pub is_late : IsTooLate late_of_one source.clock (x ∷ before) lines fault

    abbrev pub HasStoppedTiming : I → TimedNumbers S → I → Lines → RunFault → Type 0
    HasStoppedTiming start source input lines fault =
        HasStoppedBehind start source input lines fault
        ⊎ HasStoppedLate start source input lines fault
