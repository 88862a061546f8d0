-- What a watched reader or writer sees in its calls, and what a fault says of it.
use Rattle.std.specs.Prelude.{ℕ, ◌==◌, ◌&&◌, ◌≡◌, nat_lt, Bool, true, false, List, ◌++◌, Option, Result, Ok, Err}
use Rattle.std.specs.Io.KnownBytes.{Appends}
use Rattle.afdx_input_lines.specs.declared.fault.RunFault.{RunFault}
use Rattle.afdx_input_lines.specs.declared.fault.RunFault.TheVariants as run

-- a read into this much room gave the end
abbrev pub gave_end : {E : Type 0} → Result ℕ E → ℕ → Bool
gave_end (Ok count) room = count == 0 && nat_lt 0 room
gave_end (Err error) room = false

-- a write of this many bytes failed, or took none of them
abbrev pub took_none : {E : Type 0} → Result ℕ E → ℕ → Bool
took_none (Ok count) offered = count == 0 && nat_lt 0 offered
took_none (Err error) offered = true

-- the fault is that the reader failed
abbrev pub is_read : RunFault → Bool
is_read run.Read = true
is_read _ = false

-- or that the writer did
abbrev pub is_write : RunFault → Bool
is_write run.Write = true
is_write _ = false

-- the answer is that the reader failed
abbrev pub is_failed_read : {A : Type 0} → Result A RunFault → Bool
is_failed_read (Ok _) = false
is_failed_read (Err fault) = is_read fault

-- the answer is that the writer failed
abbrev pub is_failed_write : {A : Type 0} → Result A RunFault → Bool
is_failed_write (Ok _) = false
is_failed_write (Err fault) = is_write fault

-- known bytes grow by a beginning of this text
abbrev pub AppendsFront : Option (List ℕ) → Option (List ℕ) → List ℕ → Type 0
AppendsFront old new text =
    (front : List ℕ) × (rest : List ℕ) × (text ≡ front ++ rest) × Appends old new front
