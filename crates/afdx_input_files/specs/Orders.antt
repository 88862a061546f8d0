-- Numbers of a recording, by its order of bytes.
use Rattle.std.specs.Prelude.{ℕ, List, drop}
use Rattle.byteorder.specs.Endian.{big_number, little_number}
use Rattle.afdx_input_files.specs.declared.order.Order.{Order}
use Rattle.afdx_input_files.specs.declared.order.Order.TheVariants.{LowFirst, HighFirst}

-- the number in the first n bytes
unfoldable pub number_in : Order → ℕ → List ℕ → ℕ
number_in LowFirst n bytes = little_number n bytes
number_in HighFirst n bytes = big_number n bytes

-- the 16 bits that stand behind so many bytes
abbrev pub half_at : Order → ℕ → List ℕ → ℕ
half_at order place bytes = number_in order 2 (drop place bytes)

-- the 32 bits that stand there
abbrev pub word_at : Order → ℕ → List ℕ → ℕ
word_at order place bytes = number_in order 4 (drop place bytes)
