-- Laws of what recorded frames become.
use Rattle.std.specs.Prelude.{ℕ, ◌≡◌, ◌≤◌, List, [], ◌∷◌, Option}
use Rattle.afdx_frame.specs.declared.by_side.BySide.{BySide}
use Rattle.afdx_frame.specs.Seals.{whole}
use Rattle.afdx_frame.specs.Times.{latest_listed}
use Rattle.afdx_input_lines.specs.declared.frame_line.Heading.{Heading}
use Rattle.afdx_input_lines.specs.declared.watched.Watched.{Watched}
use Rattle.afdx_police.specs.Arrival.{Arrival}
use Rattle.afdx_input_files.specs.Recordings.{Recording}
use Rattle.afdx_input_sources.specs.Engine.{Item}
use Rattle.afdx_input_sources.specs.Lists.{latest_in}
use Rattle.afdx_input_sources.specs.Listed.{frames}
use Rattle.afdx_input_lines.specs.FrameLines.{frame_bytes}
use Rattle.afdx_input_lines.specs.declared.frame_line.FrameKind.{FrameKind}
use Rattle.afdx_input_sources.specs.declared.places.TapPort.{TapPort}
use Rattle.afdx_input_sources.specs.declared.timed_numbers.TimedNumbers.{TimedNumbers}
use Rattle.afdx_input_sources.specs.declared.timed_pair.TimedPair.{TimedPair}
use Rattle.afdx_input_sources.specs.Becoming.{Options, message_with, options_of, seal_with}
use Rattle.afdx_input_sources.specs.Claims.{Ports, Agree, ports_of}
use Rattle.afdx_input_sources.specs.Entering.{IsEntered, IsEnteredInPair, IsEntry}
use Rattle.afdx_input_sources.specs.NumberLines.{AreItems, arrivals_listed}
use Rattle.afdx_input_sources.specs.OrderedRecording.{HasTaken, HasTakenAll, OrderedRecording, number_taken}
use Rattle.afdx_input_sources.specs.Ordering.{arrivals_only, forward, in_order, sequence}
use Rattle.afdx_input_sources.specs.Sequences.{as_read}
use Rattle.afdx_input_sources.specs.Taking.{arrivals_in, taken_of, taken_of_both}
use Rattle.afdx_input_sources.specs.TimedPairSource.{HasPaired}
use Rattle.afdx_input_sources.specs.TimedSource.{HasTimed}

-- where two ways to know a port agree, what is taken of a recording is the same
abbrev pub SequencesAgree : Type 0
SequencesAgree = (options : Options) (p q : Ports) (recording : Recording) → Agree p q →
    sequence options p recording ≡ sequence options q recording

-- the message of an arrival and its seal are the bytes that its frame becomes
abbrev pub ArrivalsHaveTheirBytes : Type 0
ArrivalsHaveTheirBytes = (kind : FrameKind) (bytes : List ℕ) →
    whole (seal_with kind bytes) (message_with kind bytes) ≡ frame_bytes kind bytes

-- the arrivals of a recording are taken in order: all that are read before its first fault
abbrev pub ArrivalsAreTakenInOrder : Type 0
ArrivalsAreTakenInOrder = (options : Options) (ports : Ports) (recording : Recording) →
    arrivals_only (sequence options ports recording).numbers
    ≡ in_order (forward options.reorder (as_read options ports recording).numbers).numbers

-- the times of these arrivals don't decrease, and none is too late
abbrev pub AreInOrder : List Arrival → Type 0
AreInOrder [] = Unit {0}
AreInOrder (x ∷ past) =
    (latest_in frames past ≤ x.time) × (x.time ≤ latest_listed) × AreInOrder past

-- so it is with all arrivals of a recording
abbrev pub ArrivalsAreInOrder : Type 0
ArrivalsAreInOrder = (options : Options) (ports : Ports) (recording : Recording) →
    AreInOrder (arrivals_in (taken_of options.origin (sequence options ports recording)))

-- and of two
abbrev pub ArrivalsOfBothAreInOrder : Type 0
ArrivalsOfBothAreInOrder = (of_a of_b : Options) (ports : Ports) (a b : Recording) →
    AreInOrder (arrivals_in (taken_of_both of_a.origin (sequence of_a ports a)
    (sequence of_b ports b)))

-- ---- where they came in

-- where two ways to know a port agree, arrivals came in at the same ports
abbrev pub EntriesAgree : Type 0
EntriesAgree = (options : Options) (p q : Ports) (entry : TapPort) → Agree p q →
    IsEntry options p entry → IsEntry options q entry

module _ {R : Type 0} (remaining : R → Option (List ℕ)) where
  -- the arrivals that one recording gives came in as its options and its ports say
  abbrev pub GivenAreEntered : Type 0
  GivenAreEntered = (start input : Watched R) (source : TimedNumbers OrderedRecording)
      (past : List (Item Heading)) (x : Item Heading) →
      AreItems arrivals_listed
      (HasTimed (HasTaken remaining) (HasTakenAll remaining) start source input) (x ∷ past) →
      IsEntered (options_of source.numbers.source.options) (ports_of source.numbers.source.ports) x

  -- those that two give, as the options of one of them say, and these ports
  abbrev pub GivenOfPairAreEntered : Type 0
  GivenOfPairAreEntered = (start inputs : BySide (Watched R)) (source : TimedPair OrderedRecording)
      (ports : Ports) (past : List (Item Heading)) (x : Item Heading) →
      Agree (ports_of source.pair.first.source.source.ports) ports →
      Agree (ports_of source.pair.second.source.source.ports) ports →
      AreItems arrivals_listed
      (HasPaired number_taken (HasTaken remaining) (HasTakenAll remaining) start source inputs)
      (x ∷ past) →
      IsEnteredInPair (options_of source.pair.first.source.source.options)
      (options_of source.pair.second.source.source.options) ports x
