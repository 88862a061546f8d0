-- What is held of an input, and what reads of it do.
use Rattle.std.specs.Prelude.{ℕ, Bool, true, ◌≡◌, ◌≤◌, ◌+◌, List, ◌++◌, length, Option, slice_range, if◌then◌else◌}
use Rattle.std.specs.Io.KnownBytes.{Consumes, IsAtEnd}
use Rattle.afdx_input_lines.specs.Watching.{device_of, has_ended, is_over, calls_of}
use Rattle.afdx_input_lines.specs.declared.watched.Watched.{Watched}
use Rattle.afdx_input_lines.specs.declared.fault.RunFault.{RunFault}
use Rattle.afdx_input_lines.specs.declared.fault.RunFault.TheVariants as run
use Rattle.afdx_input_files.specs.declared.held.Held.{Held}

-- what was read and not yet passed
unfoldable pub unread : Held → List ℕ
unread held = slice_range held.chunk.items held.start held.end

-- what is lent of what was passed last
unfoldable pub lent : Held → List ℕ
lent held = slice_range held.chunk.items held.lent_start held.lent_end

-- between two reads: what is held, what the input has left where that is known, whether it gives
-- no more, whether it gave its end, and how often it was asked
pub record Standing : Type 0 where
  pub held : List ℕ
  pub left : Option (List ℕ)
  pub over : Bool
  pub ended : Bool
  pub calls : ℕ

abbrev pub standing : {R : Type 0} → (R → Option (List ℕ)) → Held → Watched R → Standing
standing remaining held input = record {
  held = unread held;
  left = remaining (device_of input);
  over = is_over input;
  ended = has_ended input;
  calls = calls_of input;
}

-- the call that finds that an input gives no more is made once
abbrev pub last_calls : Standing → ℕ
last_calls standing = if standing.over then 1 else 0

-- from one to the other the input gave these bytes, and was asked at most once for each, and once
-- more if it gives no more
pub record Gives (old new : Standing) (given : List ℕ) : Type 0 where
  pub consumed : Consumes old.left new.left given
  pub calls : new.calls + last_calls old ≤ old.calls + length given + last_calls new

-- it gave some bytes
abbrev pub GivesSome : Standing → Standing → Type 0
GivesSome old new = (given : List ℕ) × Gives old new given

-- and these are held no more
pub record Passes (old new : Standing) (passed : List ℕ) : Type 0 where
  pub given : List ℕ
  pub gives : Gives old new given
  pub parts : old.held ++ given ≡ passed ++ new.held

-- an input that gave its end has nothing left, where that is known
abbrev pub IsTrueToEnd : Standing → Type 0
IsTrueToEnd standing = standing.ended ≡ true → IsAtEnd standing.left

-- a fault of reading, or want of memory
abbrev pub IsOfReading : RunFault → Type 0
IsOfReading run.Read = Unit {0}
IsOfReading run.Memory = Unit {0}
IsOfReading _ = ⊥
