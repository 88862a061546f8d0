-- What a run over two lists answers, whatever machine tells it.
use Rattle.std.specs.Prelude.{ℕ, ◌≡◌, ◌⊎◌, true, List, ◌++◌, length, Option, Some, None, Result, Ok, Err}
use Rattle.afdx_input_lines.specs.Lines.{lines_of}
use Rattle.afdx_input_lines.specs.Watching.{device_of, has_failed}
use Rattle.afdx_input_lines.specs.declared.fault.RunFault.{RunFault}
use Rattle.afdx_input_lines.specs.declared.role.ByRole.{ByRole}
use Rattle.afdx_input_lines.specs.declared.role.Role.TheVariants.{Came, Left}
use Rattle.afdx_input_lines.specs.declared.watched.Watched.{Watched}
use Rattle.afdx_input_sources.specs.Causes.{Cause, cause_of, FailedRead, BadInput}
use Rattle.afdx_input_sources.specs.Engine.{Item}
use Rattle.afdx_input_sources.specs.Merging.{merged_as}
use Rattle.afdx_input_runs.specs.Joining.{Coming, Frame, IsCutOff, IsListed, frames_of, joined}
use Rattle.afdx_input_runs.specs.RecordingRun.{IfBoth}
use Rattle.afdx_input_runs.specs.declared.seen.Seen.{Seen}

-- the bytes of two inputs, where both are known
abbrev pub IfBothGiven : {R : Type 0} → (R → Option (List ℕ)) → (inputs : ByRole (Watched R)) →
    (List ℕ → List ℕ → Type 0) → Type 0
IfBothGiven remaining inputs holds =
    IfBoth (remaining (device_of inputs.came)) (remaining (device_of inputs.left)) holds

-- this holds of all frames of both, and then comes this fault, or the end
abbrev pub HoldsUpTo : (came left : Coming) → Option RunFault → (List (Item Seen) → Type 0) →
    Type 0
HoldsUpTo came left fault holds =
    (items : List (Item Seen)) × (joined came left ≡ merged_as (frames_of items) fault)
    × holds items

-- this holds of some first frames of both
abbrev pub HoldsOfFirst : (came left : Coming) → (List (Item Seen) → Type 0) → Type 0
HoldsOfFirst came left holds =
    (items : List (Item Seen)) × (later : List Frame)
    × ((joined came left).items ≡ later ++ frames_of items) × holds items

-- the lists of these bytes; their inputs then are these
module _ {R : Type 0} (remaining : R → Option (List ℕ)) (bytes_came bytes_left : List ℕ)
    (rest : ByRole (Watched R)) where
  -- this comes of both
  abbrev pub AreListed : (came left : Coming) → Type 0
  AreListed came left = IsListed Came bytes_came came × IsListed Left bytes_left left

  -- this comes of both, of one of them until its device failed
  abbrev pub OneIsCutOff : (came left : Coming) → Type 0
  OneIsCutOff came left =
      ((has_failed rest.came ≡ true)
      × IsCutOff bytes_came (remaining (device_of rest.came)) came × IsListed Left bytes_left left)
      ⊎ ((has_failed rest.left ≡ true) × IsListed Came bytes_came came
      × IsCutOff bytes_left (remaining (device_of rest.left)) left)

  module _ (done told begins : List (Item Seen) → Type 0) where
    -- A run stops with a fault. At a fault of a list all is told of the frames before it. After a
    -- failed read all is told of the frames of what was read. After a failed write, or want of
    -- memory, a beginning is told of some first frames.
    abbrev pub TwoListsStop : RunFault → Cause → Type 0
    TwoListsStop fault FailedRead =
        (came : Coming) × (left : Coming) × OneIsCutOff came left
        × HoldsUpTo came left (Some fault) told
    TwoListsStop fault BadInput =
        (came : Coming) × (left : Coming) × AreListed came left
        × HoldsUpTo came left (Some fault) told
    TwoListsStop fault _ =
        (came : Coming) × (left : Coming) × AreListed came left
        × HoldsOfFirst came left (λ items. told items ⊎ begins items)

    -- all was told of both, which have so many lines; or it stops
    abbrev pub TwoListsAnswer : Result (ByRole ℕ) RunFault → Type 0
    TwoListsAnswer (Ok lines) =
        (came : Coming) × (left : Coming) × AreListed came left × HoldsUpTo came left None done
        × (lines.came ≡ length (lines_of bytes_came)) × (lines.left ≡ length (lines_of bytes_left))
    TwoListsAnswer (Err fault) = TwoListsStop fault (cause_of fault)
