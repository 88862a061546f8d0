-- How the bytes of a recording begin.
use Rattle.std.specs.Prelude.{ℕ, Bool, ◌&&◌, nat_le, List, length, is_some, Option, Some, true, false}
use Rattle.afdx_input_files.specs.declared.form.Magic.{Magic}
use Rattle.afdx_input_files.specs.declared.form.Magic.TheVariants.{Packed}
use Rattle.afdx_input_files.specs.declared.order.Order.TheVariants.{HighFirst}
use Rattle.afdx_input_files.specs.Orders.{number_in}
use Rattle.afdx_input_files.specs.Reading.{magic_of}

-- the first four bytes name a form of a recording, or a packed file
unfoldable pub is_recording : List ℕ → Bool
is_recording bytes = nat_le 4 (length bytes) && is_some (magic_of (number_in HighFirst 4 bytes))

abbrev pub names_packed : Option Magic → Bool
names_packed (Some Packed) = true
names_packed _ = false

-- they name a packed file
unfoldable pub is_packed_file : List ℕ → Bool
is_packed_file bytes =
    nat_le 4 (length bytes) && names_packed (magic_of (number_in HighFirst 4 bytes))
