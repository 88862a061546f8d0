-- Numbers and bytes as the fields of a line write them.
use Rattle.std.specs.Prelude.{ℕ, ◌-◌, ◌^◌, min, ◌==◌, ◌≡◌, Bool, true, false, ◌||◌, List, [], ◌∷◌, Option}
use Rattle.std.specs.Prelude.{Some, None, Result, Ok, Err, if◌then◌else◌, option_map, nat_lt}
use Rattle.std.specs.Borrow.{Bor}
use Rattle.std.specs.Str.{bytes_eq}
use Rattle.hex.specs.Hex.{decode_of}
use Rattle.afdx_frame.specs.Times.{latest_listed}
use Rattle.afdx_input_lines.specs.Splitting.{space, between_spaces, fields_after, number_of}
use Rattle.afdx_input_lines.specs.Letters.{number_sign, hyphen}
use Rattle.afdx_input_lines.specs.declared.fault.LineFault.{LineFault}
use Rattle.afdx_input_lines.specs.declared.fault.LineFault.TheVariants.{TimeTooLarge, TimeBack}

-- the value of an answer that is one
abbrev pub ok_of : {A E : Type 0} → Result A E → Option A
ok_of (Ok value) = Some value
ok_of (Err error) = None

-- the bytes that a field of hexadecimal digits writes, or `-` for none
unfoldable pub bytes_of_digits : List ℕ → Option (List ℕ)
bytes_of_digits digits = if bytes_eq digits (hyphen ∷ []) then Some [] else ok_of (decode_of digits)

-- as much of a number as 64 bits hold
abbrev pub cut : ℕ → ℕ
cut n = min n (2 ^ 64 - 1)

-- as much of it, where there is one
abbrev pub cut_number : Option ℕ → Option ℕ
cut_number number = option_map cut number

-- a text begins with a field that is this number, as much as 64 bits hold of it, or none, and has
-- this rest after it
abbrev pub SplitsNumber : List ℕ → Option ℕ → Option (Bor (List ℕ)) → Type 0
SplitsNumber text number rest = (field : List ℕ) × (number ≡ cut_number (number_of field))
    × (between_spaces text ≡ field ∷ fields_after rest)

-- a space stands among these bytes
unfoldable pub holds_space : List ℕ → Bool
holds_space [] = false
holds_space (byte ∷ bytes) = byte == space || holds_space bytes

-- nothing, or a remark
abbrev pub is_skipped : List ℕ → Bool
is_skipped [] = true
is_skipped (byte ∷ bytes) = byte == number_sign

-- the first false check of a time, after a line of the latest time
abbrev pub time_fault : ℕ → ℕ → Option LineFault
time_fault time latest =
    if nat_lt latest_listed time then Some TimeTooLarge
    else if nat_lt time latest then Some TimeBack
    else None

-- the first of two checks that is false
abbrev pub fault_or : Option LineFault → Option LineFault → Option LineFault
fault_or (Some fault) next = Some fault
fault_or None next = next
