-- What is known of a source of the lines of two recordings, from call to call.
use Rattle.std.specs.Prelude.{◌≡◌, ◌⊎◌, ◌∷◌, List}
use Rattle.afdx_frame.specs.declared.by_side.BySide.{BySide}
use Rattle.afdx_frame.specs.declared.link.Side.{Side}
use Rattle.afdx_frame.specs.declared.link.Side.TheVariants.{A, B}
use Rattle.afdx_input_lines.specs.Faults.{fault_of_network}
use Rattle.afdx_input_lines.specs.declared.fault.RunFault.{RunFault}
use Rattle.afdx_input_lines.specs.declared.fault.RunFault.TheVariants as run
use Rattle.afdx_input_sources.specs.Engine.{Item, item_of}
use Rattle.afdx_input_sources.specs.declared.merged.Nth.{Nth}
use Rattle.afdx_input_sources.specs.declared.merged.Nth.TheVariants.{First, Second}
use Rattle.afdx_input_sources.specs.declared.number.Number.{Number}
use Rattle.afdx_input_sources.specs.declared.number_line.NumberLine.{NumberLine}
use Rattle.afdx_input_sources.specs.declared.timed_pair.TimedPair.{TimedPair}
use Rattle.afdx_input_sources.specs.MergedSource.{AreMerged, AreMergedToEnd, OfTwo, StopsMerging, item_given, items_of}
use Rattle.afdx_input_sources.specs.NumberLines.{Lines, NumberFollows, number_order}
use Rattle.afdx_input_sources.specs.Sequences.{Numbers}
use Rattle.afdx_input_sources.specs.Taking.{late_of_both}
use Rattle.afdx_input_sources.specs.TimedSource.{AreTimed, IsTooLate}

-- the first recording is that of network A
abbrev pub network_of : Nth → Side
network_of First = A
network_of Second = B

-- the fault of a source, as that of the recording of this network
abbrev pub fault_named : Side → RunFault → RunFault
fault_named side (run.Recording fault) = fault_of_network side fault
fault_named side fault = fault

-- the line that was given last
abbrev pub line_given : {S : Type 0} → (S → Item Number) → TimedPair S → Item NumberLine
line_given current source =
    item_of (item_given current source.pair).number source.line
    (item_given current source.pair).bytes

module _ {S I : Type 0} (current : S → Item Number) (gave ended : I → S → I → Numbers → Type 0)
  where
    -- these numbers of both were given
    abbrev pub IsPaired : BySide I → TimedPair S → BySide I → List (OfTwo Number) → Type 0
    IsPaired start source inputs past =
        AreMerged number_order NumberFollows current gave ended start source.pair inputs past

    pub record HasPaired (start : BySide I) (source : TimedPair S) (inputs : BySide I)
        (lines : Lines) : Type 0 where
      pub past : List (OfTwo Number)
      pub is_paired : IsPaired start source inputs past
      pub are_timed : AreTimed late_of_both source.clock (items_of past) lines

    pub record HasPairedAll (start : BySide I) (source : TimedPair S) (inputs : BySide I)
        (lines : Lines) : Type 0 where
      pub past : List (OfTwo Number)
      pub is_paired :
          AreMergedToEnd number_order NumberFollows current gave ended start source.pair inputs past
      pub are_timed : AreTimed late_of_both source.clock (items_of past) lines

    module _ (stopped : I → S → I → Numbers → RunFault → Type 0) where
      -- a recording stopped
      pub record HasStoppedBehind (start : BySide I) (source : TimedPair S) (inputs : BySide I)
          (lines : Lines) (fault : RunFault) : Type 0 where
        pub past : List (OfTwo Number)
        pub own : RunFault
        pub stops : StopsMerging number_order NumberFollows current gave ended stopped start
            source.pair inputs past own
        pub fault_is : fault ≡ fault_named (network_of source.pair.from) own
        pub are_timed : AreTimed late_of_both source.clock (items_of past) lines

      -- or the number that was given last is too late
      pub record HasStoppedLate (start : BySide I) (source : TimedPair S) (inputs : BySide I)
          (lines : Lines) (fault : RunFault) : Type 0 where
        pub before : List (OfTwo Number)
        pub x : OfTwo Number
        pub is_paired : IsPaired start source inputs (x ∷ before)
        pub fault_is : fault ≡ late_of_both x.item
        pub is_late : IsTooLate late_of_both source.clock (items_of (x ∷ before)) lines fault

      abbrev pub HasStoppedPairing : BySide I → TimedPair S → BySide I → Lines → RunFault → Type 0
      HasStoppedPairing start source inputs lines fault =
          HasStoppedBehind start source inputs lines fault
          ⊎ HasStoppedLate start source inputs lines fault
