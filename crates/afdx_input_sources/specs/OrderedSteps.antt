-- What one step of a source of numbers in order does.
use Rattle.std.specs.Prelude.{ℕ, ◌≡◌, ◌+◌, ◌≤◌, ◌<◌, ◌⊎◌, true, false, nat_lt, List, ◌∷◌, length, Some, None, Result, Ok, Err}
use Rattle.std.specs.List.Sorted.{IsPermutation}
use Rattle.afdx_input_lines.specs.declared.fault.RunFault.{RunFault}
use Rattle.afdx_input_lines.specs.declared.next.Progress.{Progress}
use Rattle.afdx_input_lines.specs.declared.next.Progress.TheVariants as progress
use Rattle.afdx_input_lines.specs.declared.fault.RunFault.TheVariants as run
use Rattle.afdx_input_lines.specs.declared.recording_fault.RecordingFault.TheVariants.{TimeBack}
use Rattle.afdx_input_sources.specs.Engine.{Item}
use Rattle.afdx_input_sources.specs.declared.number.AsRead.{AsRead}
use Rattle.afdx_input_sources.specs.declared.number.Number.{Number}
use Rattle.afdx_input_sources.specs.declared.ordered.Ordered.{Ordered}
use Rattle.afdx_input_sources.specs.declared.ordered.Stage.{Stage}
use Rattle.afdx_input_sources.specs.declared.ordered.Stage.TheVariants.{Reading, Over, Stopped}
use Rattle.afdx_input_sources.specs.Holding.{ComesFirst}
use Rattle.afdx_input_sources.specs.Ordering.{moment_of}
use Rattle.afdx_input_sources.specs.Sequences.{is_arrival, moment_or, number_read}

-- no more steps than this are taken before something is given, or the end is known
abbrev pub steps_by : Stage → ℕ → ℕ
steps_by Reading left = left + 1
steps_by Over left = 0
steps_by (Stopped fault) left = 0

-- no more than this can be given of a source that has so many left, where so many are held
abbrev pub left_by : Stage → (left held : ℕ) → ℕ
left_by Reading left held = left + held
left_by Over left held = held
left_by (Stopped fault) left held = held

module _ {S : Type 0} where
  -- the first of those that are held is handed on
  pub record HandsOn (old new : Ordered S) : Type 0 where
    pub first : Item Number
    pub comes : ComesFirst first new.held
    pub are_held : IsPermutation old.held (first ∷ new.held)
    pub new_is : new ≡ record old {
      held = new.held;
      last = Some first;
      is_held = true;
      latest = moment_or first.head old.latest;
    }

  -- a skipped number stands
  pub record Passes (x : Item AsRead) (old new : Ordered S) : Type 0 where
    pub skipped : is_arrival x.head.becomes ≡ false
    pub new_is : new ≡ record old { is_held = false }

  -- an arrival is early enough
  pub record IsInTime (x : Item AsRead) (old : Ordered S) : Type 0 where
    pub arrives : is_arrival x.head.becomes ≡ true
    pub forward : nat_lt (moment_of (number_read x)) old.latest ≡ false

  -- it stands, where none is ever held
  pub record Stands (x : Item AsRead) (old new : Ordered S) : Type 0 where
    pub in_time : IsInTime x old
    pub none : old.most ≡ 0
    pub new_is : new ≡ record old { is_held = false; latest = moment_of (number_read x) }

  -- it is held, like these
  pub record IsHeldLike (x : Item AsRead) (old : Ordered S) (held : List (Item Number)) : Type 0
    where
      pub in_time : IsInTime x old
      pub are_held : IsPermutation (number_read x ∷ old.held) held

  -- and there is room
  pub record Holds (x : Item AsRead) (old new : Ordered S) : Type 0 where
    pub held : List (Item Number)
    pub like : IsHeldLike x old held
    pub room : length held ≤ old.most
    pub new_is : new ≡ record old { held = held; last = None }

  -- or another has to go
  pub record Exchanges (x : Item AsRead) (old new : Ordered S) : Type 0 where
    pub held : List (Item Number)
    pub like : IsHeldLike x old held
    pub full : old.most < length held
    pub hands : HandsOn (record old { held = held; last = None }) new

  -- it goes back too far
  pub record GoesBack (x : Item AsRead) (old new : Ordered S) : Type 0 where
    pub arrives : is_arrival x.head.becomes ≡ true
    pub back : nat_lt (moment_of (number_read x)) old.latest ≡ true
    pub new_is : new ≡ record old { stage = Stopped (TimeBack x.number) }

  -- what happens to the number that was read last
  abbrev pub TakesIn : Item AsRead → (old new : Ordered S) → Result Progress RunFault → Type 0
  TakesIn x old new (Ok progress.Given) =
      Passes x old new ⊎ (Stands x old new ⊎ Exchanges x old new)
  TakesIn x old new (Ok progress.NotYet) = Holds x old new ⊎ GoesBack x old new
  TakesIn x old new (Err fault) = (fault ≡ run.Memory)
      × (new.source ≡ old.source) × (new.most ≡ old.most)

  abbrev pub steps_left : (S → ℕ) → Ordered S → ℕ
  steps_left left_of ordered = steps_by ordered.stage (left_of ordered.source)

  abbrev pub left_in_order : (S → ℕ) → Ordered S → ℕ
  left_in_order left_of ordered =
      left_by ordered.stage (left_of ordered.source) (length ordered.held)
