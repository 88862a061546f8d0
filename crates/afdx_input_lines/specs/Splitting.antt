-- How a text is split at a byte: fields, digits and numbers.
use Rattle.std.specs.Prelude.{ℕ, ◌+◌, ◌-◌, ◌*◌, ◌==◌, Bool, true, ◌&&◌, List, [], ◌∷◌, Option}
use Rattle.std.specs.Prelude.{Some, None, if◌then◌else◌}
use Rattle.std.specs.Borrow.{Bor}
use Rattle.std.specs.List.{slice_split}
use Rattle.std.specs.Char.{is_ascii_digit}

-- what stands between two fields
abbrev pub space : ℕ
space = 32

-- the digit `0`
abbrev pub zero_digit : ℕ
zero_digit = 48

-- the fields of a text, which stand between spaces
abbrev pub between_spaces : List ℕ → List (List ℕ)
between_spaces text = slice_split (λ byte. byte == space) text

-- the parts of what is left of a text after such a byte
abbrev pub parts_after : ℕ → Option (Bor (List ℕ)) → List (List ℕ)
parts_after byte None = []
parts_after byte (Some rest) = slice_split (λ one. one == byte) rest.now

-- the fields of what is left of a text after a space
abbrev pub fields_after : Option (Bor (List ℕ)) → List (List ℕ)
fields_after rest = parts_after space rest

-- what digits write after a number
abbrev pub number_after : ℕ → List ℕ → ℕ
number_after n [] = n
number_after n (digit ∷ digits) = number_after (n * 10 + (digit - zero_digit)) digits

-- each byte is a decimal digit
abbrev pub all_digits : List ℕ → Bool
all_digits [] = true
all_digits (byte ∷ bytes) = is_ascii_digit byte && all_digits bytes

-- the number that one or more decimal digits write
abbrev pub number_of : List ℕ → Option ℕ
number_of [] = None
number_of (byte ∷ bytes) =
    if all_digits (byte ∷ bytes) then Some (number_after 0 (byte ∷ bytes)) else None
