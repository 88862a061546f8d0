-- What is known of a source of numbers in order, from call to call.
use Rattle.std.specs.Prelude.{ℕ, ◌≡◌, ◌+◌, ◌≤◌, ◌⊎◌, ⊤, Bool, true, false, List, [], ◌∷◌, ◌++◌, length, take, drop, Option, Some, None}
use Rattle.std.specs.Prelude.{Result, Ok, Err}
use Rattle.std.specs.List.Sorted.{IsPermutation}
use Rattle.afdx_input_lines.specs.declared.fault.RunFault.{RunFault}
use Rattle.afdx_input_lines.specs.declared.fault.RunFault.TheVariants as run
use Rattle.afdx_input_lines.specs.declared.recording_fault.RecordingFault.{RecordingFault}
use Rattle.afdx_input_lines.specs.declared.recording_fault.RecordingFault.TheVariants.{TimeBack}
use Rattle.afdx_input_files.specs.Recordings.{most_numbers}
use Rattle.afdx_input_sources.specs.Engine.{Item}
use Rattle.afdx_input_sources.specs.declared.number.AsRead.{AsRead}
use Rattle.afdx_input_sources.specs.declared.number.Number.{Number}
use Rattle.afdx_input_sources.specs.declared.ordered.Ordered.{Ordered}
use Rattle.afdx_input_sources.specs.declared.ordered.Stage.{Stage}
use Rattle.afdx_input_sources.specs.declared.ordered.Stage.TheVariants.{Reading, Over, Stopped}
use Rattle.afdx_input_sources.specs.Ordering.{all_handed, forward, goes_back, handed_on, in_order}
use Rattle.afdx_input_sources.specs.Sequences.{Numbers, latest_of, number_read, numbers_read}

-- the number that was given last: an arrival that was held, or the number that was read last
abbrev pub given_by : (is_held : Bool) → Option (Item Number) → Item AsRead → Item Number
given_by false last x = number_read x
given_by true (Some arrival) x = arrival
given_by true None x = number_read x

abbrev pub given_in_order : {S : Type 0} → (S → Item AsRead) → Ordered S → Item Number
given_in_order current ordered = given_by ordered.is_held ordered.last (current ordered.source)

-- numbers that were read: each has its number, and none goes back too far
abbrev pub AreNumbered : List (Item AsRead) → Type 0
AreNumbered [] = ⊤
AreNumbered (x ∷ read) = (x.number ≡ length read + 1) × AreNumbered read

pub record AreForward (most : ℕ) (read : List (Item AsRead)) : Type 0 where
  pub numbered : AreNumbered read
  pub few : length read ≤ most_numbers
  pub forward_is : forward most (numbers_read read)
      ≡ record { numbers = numbers_read read; back = None }

-- these are held of them, whose end isn't known
pub record AreHeld (most : ℕ) (read : List (Item AsRead)) (held : List (Item Number))
    (past : Numbers) : Type 0 where
  pub are_held : IsPermutation held (take most (in_order (numbers_read read)))
  pub handed : past ≡ handed_on most (numbers_read read)

-- or they are all that were read, and so many are still to be given
pub record AreLeft (most : ℕ) (read : List (Item AsRead)) (held : List (Item Number))
    (past : Numbers) : Type 0 where
  pub left : ℕ
  pub are_held : IsPermutation held (take left (take most (in_order (numbers_read read))))
  pub handed : past ≡ drop left (take most (in_order (numbers_read read)))
      ++ handed_on most (numbers_read read)

-- the fault of a recording, if it is one; else the fault itself
abbrev pub recorded_in : RunFault → Result RecordingFault RunFault
recorded_in (run.Recording fault) = Ok fault
recorded_in fault = Err fault

-- a fault of no recording
abbrev pub IsNotRecorded : RunFault → Type 0
IsNotRecorded (run.Recording fault) = ⊥
IsNotRecorded _ = ⊤

module _ {S I : Type 0} (gave ended : I → S → I → List (Item AsRead) → Type 0)
    (stopped : I → S → I → List (Item AsRead) → RunFault → Type 0) where
  -- behind these numbers stands this fault: the source's, or that of an arrival that goes back
  abbrev pub StopsAt : (most : ℕ) → I → S → I → List (Item AsRead) → RecordingFault → Type 0
  StopsAt most start source input read fault =
      stopped start source input read (run.Recording fault)
      ⊎ ((x : Item AsRead) × gave start source input (x ∷ read)
      × (goes_back most (number_read x) (numbers_read read) ≡ true)
      × (fault ≡ TimeBack x.number))

  -- so far these were read, and so many are held
  abbrev pub StandsAt : Stage → (most : ℕ) → I → S → I → List (Item AsRead) →
      List (Item Number) → Numbers → Type 0
  StandsAt Reading most start source input read held past =
      gave start source input read × AreHeld most read held past
  StandsAt Over most start source input read held past =
      ended start source input read × AreLeft most read held past
  StandsAt (Stopped fault) most start source input read held past =
      StopsAt most start source input read fault × AreLeft most read held past

  -- these numbers were given
  pub record HasOrdered (start : I) (ordered : Ordered S) (input : I) (past : Numbers)
      : Type 0 where
    pub read : List (Item AsRead)
    pub are_forward : AreForward ordered.most read
    pub latest : ordered.latest ≡ latest_of past
    pub stands : StandsAt ordered.stage ordered.most start ordered.source input read
        ordered.held past

  -- and these are all
  pub record HasOrderedAll (start : I) (ordered : Ordered S) (input : I) (past : Numbers)
      : Type 0 where
    pub read : List (Item AsRead)
    pub are_forward : AreForward ordered.most read
    pub ended_so : ended start ordered.source input read
    pub all : past ≡ all_handed ordered.most (numbers_read read)

  -- or this fault stands behind all
  pub record StopsBehindAll (start : I) (ordered : Ordered S) (input : I) (past : Numbers)
      (fault : RunFault) : Type 0 where
    pub read : List (Item AsRead)
    pub are_forward : AreForward ordered.most read
    pub why : RecordingFault
    pub fault_is : fault ≡ run.Recording why
    pub stops : StopsAt ordered.most start ordered.source input read why
    pub all : past ≡ all_handed ordered.most (numbers_read read)

  -- or this one, of no recording, behind those that are known
  pub record StopsBehindKnown (start : I) (ordered : Ordered S) (input : I) (past : Numbers)
      (fault : RunFault) : Type 0 where
    pub read : List (Item AsRead)
    pub are_forward : AreForward ordered.most read
    pub other : IsNotRecorded fault
    pub stopped_so : stopped start ordered.source input read fault
    pub known : past ≡ handed_on ordered.most (numbers_read read)

  -- or there was no memory for one more
  pub record HasNoRoom (start : I) (ordered : Ordered S) (input : I) (past : Numbers)
      (fault : RunFault) : Type 0 where
    pub read : List (Item AsRead)
    pub x : Item AsRead
    pub are_forward : AreForward ordered.most read
    pub gave_them : gave start ordered.source input (x ∷ read)
    pub fault_is : fault ≡ run.Memory
    pub known : past ≡ handed_on ordered.most (numbers_read read)

  abbrev pub HasStoppedOrdering : I → Ordered S → I → Numbers → RunFault → Type 0
  HasStoppedOrdering start ordered input past fault =
      StopsBehindAll start ordered input past fault
      ⊎ (StopsBehindKnown start ordered input past fault
      ⊎ HasNoRoom start ordered input past fault)
