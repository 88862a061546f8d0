-- Options of a block: code and length, 16 bits each, and a value, filled up to a multiple of 4
-- bytes.
use Rattle.std.specs.Prelude.{ℕ, zero, suc, ◌+◌, ◌*◌, ◌/◌, ◌==◌, List, [], ◌∷◌, length, take, drop, nat_lt, Option, Some, None, option_map, option_and_then, if◌then◌else◌}
use Rattle.afdx_input_files.specs.declared.order.Order.{Order}
use Rattle.afdx_input_files.specs.declared.options.NextOption.{NextOption}
use Rattle.afdx_input_files.specs.declared.options.NextOption.TheVariants.{Last, Broken, Next}
use Rattle.afdx_input_files.specs.Orders.{number_in, half_at}

-- so many bytes, filled up to a multiple of 4
unfoldable pub filled : ℕ → ℕ
filled n = (n + 3) / 4 * 4

-- the bytes of code and length
abbrev pub option_head : ℕ
option_head = 4

-- what stands next: nothing at the end and at code 0; a piece, or what runs over the end, is broken
unfoldable pub next_option : Order → List ℕ → NextOption
next_option order bytes =
    if length bytes == 0 then Last
    else if nat_lt (length bytes) option_head then Broken
    else if half_at order 0 bytes == 0 then Last
    else if nat_lt (length bytes) (option_head + filled (half_at order 2 bytes)) then Broken
    else Next (half_at order 0 bytes) (half_at order 2 bytes)

-- an option
pub record Coded : Type 0 where
  pub code : ℕ
  pub value : List ℕ

abbrev pub by_option : (List ℕ → Option (List Coded)) → List ℕ → NextOption → Option (List Coded)
by_option options bytes Last = Some []
by_option options bytes Broken = None
by_option options bytes (Next code n) =
    let coded : Coded = record { code = code; value = take n (drop option_head bytes) } in
    option_map (λ (rest : List Coded). coded ∷ rest) (options (drop (option_head + filled n) bytes))

-- at most n options
abbrev pub options_within : ℕ → Order → List ℕ → Option (List Coded)
options_within zero order bytes = Some []
options_within (suc n) order bytes =
    by_option (options_within n order) bytes (next_option order bytes)

-- all options in these bytes, or none if one is broken
unfoldable pub options_in : Order → List ℕ → Option (List Coded)
options_in order bytes = options_within (suc (length bytes)) order bytes

-- the number of so many bytes that the first option of a code says: wrong if it has another length
abbrev pub first_said : Order → ℕ → ℕ → List Coded → Option (Option ℕ)
first_said order code size [] = Some None
first_said order code size (first ∷ rest) =
    if first.code == code
    then (if length first.value == size then Some (Some (number_in order size first.value))
    else None)
    else first_said order code size rest

-- the number that the options in these bytes say for a code
unfoldable pub said : Order → ℕ → ℕ → List ℕ → Option (Option ℕ)
said order code size bytes = option_and_then (first_said order code size) (options_in order bytes)
