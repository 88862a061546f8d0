-- The check sequence as a function of a message, and what is sealed by it.
use Rattle.std.specs.Prelude.{◌≡◌, ◌↔◌, ℕ, ◌-◌, ◌<◌, ◌^◌, Bool, false, ◌&&◌, nat_le, IsTrue}
use Rattle.std.specs.Prelude.{List, ◌++◌, length, take, drop, slice_index}
use Rattle.std.specs.Int.{w32, to_le_bytes}
use Rattle.std.specs.Str.{bytes_eq}
use Rattle.afdx_frame.specs.Sequence.{IsSequence, IsSealed}
use Rattle.afdx_frame.specs.Register.{left_by}

-- the sequence of a message: what the message, its first 32 bits complemented, leaves in the
-- register, complemented
unfoldable pub sequence_of : List ℕ → ℕ
sequence_of message = 0xffff_ffff - left_by message

-- these bytes and their sequence
abbrev pub sealed : List ℕ → List ℕ
sealed bytes = bytes ++ to_le_bytes w32 (sequence_of bytes)

-- these bytes and the complement of their sequence
abbrev pub sealed_wrongly : List ℕ → List ℕ
sealed_wrongly bytes = bytes ++ to_le_bytes w32 (0xffff_ffff - sequence_of bytes)

-- whether the last four bytes are the sequence of the others
unfoldable pub is_sealed : List ℕ → Bool
is_sealed bytes =
    nat_le 4 (length bytes)
    && bytes_eq (drop (length bytes - 4) bytes)
    (to_le_bytes w32 (sequence_of (take (length bytes - 4) bytes)))

-- each is a byte
abbrev pub AreBytes : List ℕ → Type 0
AreBytes bytes = (i : ℕ) → slice_index bytes i < 2 ^ 8

-- the remainder's definition gives each message the sequence that is computed, and no other
pub record SequenceIsComputed : Type 0 where
  pub computed : (message : List ℕ) → AreBytes message → IsSequence message (sequence_of message)
  pub only_one : (message : List ℕ) (m n : ℕ) → IsSequence message m → IsSequence message n → m ≡ n

-- sealed bytes are those that the test finds sealed: those that were sealed are, those that were
-- sealed wrongly are not
pub record SealingIsComputed : Type 0 where
  pub tested : (bytes : List ℕ) → AreBytes bytes → IsTrue (is_sealed bytes) ↔ IsSealed bytes
  pub sealed : (bytes : List ℕ) → IsTrue (is_sealed (sealed bytes))
  pub wrongly : (bytes : List ℕ) → is_sealed (sealed_wrongly bytes) ≡ false
