-- One key of a table: whether it is there, of its kind, and in its range. Each reading is refused
-- by the first of these checks that is false.
use Rattle.std.specs.Prelude.{ℕ, ◌-◌, ℤ, pos, negsuc, Bool, true, ◌&&◌, nat_le, nat_eq, List, map}
use Rattle.std.specs.Prelude.{[], ◌∷◌, length, Option, Some, None, option_map, slice_index_or}
use Rattle.std.specs.Prelude.{option_and_then, Result, Ok, Err, if◌then◌else◌}
use Rattle.std.specs.List.{list_any}
use Rattle.std.specs.Borrow.{Bor}
use Rattle.std.specs.Str.{bytes_eq}
use Rattle.toml.specs.Data.{Data, Items, no_items, item, Members, no_members, member, get_member}
use Rattle.toml.specs.Data.{as_str, as_integer, as_table, as_array}
use Rattle.afdx_config.specs.declared.fault.Part.{Part}
use Rattle.afdx_config.specs.declared.fault.Part.TheVariants as part
use Rattle.afdx_config.specs.declared.key_tables.TheConstants.{TOP_KEYS, SYSTEM_KEYS, LINK_KEYS}
use Rattle.afdx_config.specs.declared.key_tables.TheConstants.{PORT_KEYS}
use Rattle.afdx_config.specs.declared.cascade_keys.TheConstants.{CASCADE_KEYS, SWITCH_KEYS}
use Rattle.afdx_config.specs.declared.cascade_keys.TheConstants.{NEIGHBOUR_KEYS}
use Rattle.afdx_config.specs.declared.keys.At.{At}
use Rattle.afdx_config.specs.declared.fault.Place.{Place}
use Rattle.afdx_config.specs.declared.fault.ConfigFault.{ConfigFault}
use Rattle.afdx_config.specs.declared.fault.ConfigFault.TheVariants.{Missing, WrongKind, UnknownKey}
use Rattle.afdx_config.specs.declared.fault.ConfigFault.TheVariants.{OutOfRange}
use Rattle.afdx_frame.specs.Checks.{◌>>=◌, ◌>>◌, check, or_else}

-- where a check looks: the part, the table's place in it, and the key's number
abbrev pub place : Part → ℕ → ℕ → Place
place p i k = record { part = p; index = i; key = k }

-- a key in a table of the code: its name, the least and the greatest of its values, and texts
abbrev pub Key : Type 0
Key = Bor (List ℕ) × ℕ × ℕ × Bor (List ℕ) × Bor (List ℕ)

-- a key by its name, and the least and the greatest of its values
pub record KeyRow : Type 0 where
  pub name : List ℕ
  pub least : ℕ
  pub greatest : ℕ

abbrev pub key_row : List ℕ → ℕ → ℕ → KeyRow
key_row name least greatest = record { name = name; least = least; greatest = greatest }

abbrev pub key_rows : List Key → List KeyRow
key_rows keys = map (λ key. key_row key.0.now key.1 key.2) keys

-- the keys of each part: the tables of the code
unfoldable pub top_keys : List KeyRow
top_keys = map (λ key. key_row key.0.now key.1 key.2) TOP_KEYS

unfoldable pub system_keys : List KeyRow
system_keys = map (λ key. key_row key.0.now key.1 key.2) SYSTEM_KEYS

unfoldable pub link_keys : List KeyRow
link_keys = map (λ key. key_row key.0.now key.1 key.2) LINK_KEYS

unfoldable pub port_keys : List KeyRow
port_keys = map (λ key. key_row key.0.now key.1 key.2) PORT_KEYS

-- of a file that describes several switches: its top, the top of a switch, and a neighbour
unfoldable pub cascade_keys : List KeyRow
cascade_keys = map (λ key. key_row key.0.now key.1 key.2) CASCADE_KEYS

unfoldable pub switch_keys : List KeyRow
switch_keys = map (λ key. key_row key.0.now key.1 key.2) SWITCH_KEYS

unfoldable pub neighbour_keys : List KeyRow
neighbour_keys = map (λ key. key_row key.0.now key.1 key.2) NEIGHBOUR_KEYS

-- a key that is looked at, with the place of its faults
pub record Spot : Type 0 where
  pub place : Place
  pub name : List ℕ
  pub least : ℕ
  pub greatest : ℕ

abbrev pub no_key : KeyRow
no_key = record { name = []; least = 0; greatest = 0 }

-- the key of a number, which is its place in the table, from 1
abbrev pub spot : Part → List KeyRow → ℕ → ℕ → Spot
spot p keys i number =
    let key = slice_index_or keys (number - 1) no_key in
    record {
      place = place p i number;
      name = key.name;
      least = key.least;
      greatest = key.greatest;
    }

abbrev pub top_at : ℕ → Spot
top_at number = spot part.Top top_keys 0 number

abbrev pub system_at : ℕ → ℕ → Spot
system_at i number = spot part.System system_keys i number

abbrev pub link_at : ℕ → ℕ → Spot
link_at i number = spot part.Link link_keys i number

abbrev pub port_at : ℕ → ℕ → Spot
port_at i number = spot part.Port port_keys i number

-- the one key at the top of a file of several switches, whose number comes after those of a switch
abbrev pub switches_at : Spot
switches_at = record (spot part.Top cascade_keys 0 1) { place = place part.Top 0 6 }

abbrev pub switch_at : ℕ → Spot
switch_at number = spot part.Top switch_keys 0 number

abbrev pub neighbour_at : ℕ → ℕ → Spot
neighbour_at i number = spot part.Neighbour neighbour_keys i number

-- the key with another least value, and with another greatest one
abbrev pub at_least : ℕ → Spot → Spot
at_least least at = record at { least = least }

abbrev pub at_most : ℕ → Spot → Spot
at_most greatest at = record at { greatest = greatest }

-- the key that the code looks at
unfoldable pub spot_of : At → Spot
spot_of at =
    record { place = at.place; name = at.name.now; least = at.least; greatest = at.greatest }

-- a whole number within a range
abbrev pub in_range : Place → ℕ → ℕ → ℤ → Result ℕ ConfigFault
in_range at low high (pos n) = if nat_le low n && nat_le n high then Ok n else Err (OutOfRange at)
in_range at low high (negsuc n) = Err (OutOfRange at)

-- a whole number of a key
unfoldable pub whole : Spot → Members → Result ℕ ConfigFault
whole at t = do
  value ← or_else (get_member at.name t) (Missing at.place)
  number ← or_else (as_integer value) (WrongKind at.place)
  in_range at.place at.least at.greatest number

-- one of some numbers in its range
unfoldable pub one_of : Spot → List ℕ → Members → Result ℕ ConfigFault
one_of at numbers t = do
  number ← whole at t
  check (list_any (λ n. nat_eq n number) numbers) (OutOfRange at.place)
  Ok number

-- a text of a key
unfoldable pub text : Spot → Members → Result (List ℕ) ConfigFault
text at t = do
  value ← or_else (get_member at.name t) (Missing at.place)
  or_else (as_str value) (WrongKind at.place)

-- what a word stands for, among some words
abbrev pub meaning : {A : Type 0} → List (List ℕ × A) → List ℕ → Option A
meaning [] s = None
meaning (w ∷ ws) s = if bytes_eq s w.0 then Some w.1 else meaning ws s

-- one of some words, for what it stands
unfoldable pub word : {A : Type 0} → Spot → List (List ℕ × A) → Members → Result A ConfigFault
word at words t = do
  s ← text at t
  or_else (meaning words s) (OutOfRange at.place)

-- the items of an array, where each is of the kind
abbrev pub all_as : {A : Type 0} → (Data → Option A) → Items → Option (List A)
all_as f no_items = Some []
all_as f (item d ds) = option_and_then (λ x. option_map (λ xs. x ∷ xs) (all_as f ds)) (f d)

-- an array of tables that may be absent, and is empty then
abbrev pub tables_or_none : Place → Option Data → Result (List Members) ConfigFault
tables_or_none at None = Ok []
tables_or_none at (Some d) = do
  items ← or_else (as_array d) (WrongKind at)
  or_else (all_as as_table items) (WrongKind at)

-- at most as many tables as its range says
unfoldable pub tables : Spot → Members → Result (List Members) ConfigFault
tables at t = do
  ts ← tables_or_none at.place (get_member at.name t)
  check (nat_le (length ts) at.greatest) (OutOfRange at.place)
  Ok ts

-- an array of texts, as many as its range says
unfoldable pub texts : Spot → Members → Result (List (List ℕ)) ConfigFault
texts at t = do
  value ← or_else (get_member at.name t) (Missing at.place)
  items ← or_else (as_array value) (WrongKind at.place)
  words ← or_else (all_as as_str items) (WrongKind at.place)
  check (nat_le at.least (length words) && nat_le (length words) at.greatest)
      (OutOfRange at.place)
  Ok words

-- the table has no key but these
unfoldable pub are_among : List KeyRow → Members → Bool
are_among known no_members = true
are_among known (member k d ms) = list_any (λ key. bytes_eq key.name k) known && are_among known ms

unfoldable pub only : Place → List KeyRow → Members → Result (Unit {0}) ConfigFault
only at known t = check (are_among known t) (UnknownKey at)

unfoldable pub only_top_keys : Members → Result (Unit {0}) ConfigFault
only_top_keys t = only (place part.Top 0 0) top_keys t

unfoldable pub only_system_keys : ℕ → Members → Result (Unit {0}) ConfigFault
only_system_keys i t = only (place part.System i 0) system_keys t

unfoldable pub only_link_keys : ℕ → Members → Result (Unit {0}) ConfigFault
only_link_keys i t = only (place part.Link i 0) link_keys t

unfoldable pub only_port_keys : ℕ → Members → Result (Unit {0}) ConfigFault
only_port_keys i t = only (place part.Port i 0) port_keys t

unfoldable pub only_cascade_keys : Members → Result (Unit {0}) ConfigFault
only_cascade_keys t = only (place part.Top 0 0) cascade_keys t

unfoldable pub only_switch_keys : Members → Result (Unit {0}) ConfigFault
only_switch_keys t = only (place part.Top 0 0) switch_keys t

unfoldable pub only_neighbour_keys : ℕ → Members → Result (Unit {0}) ConfigFault
only_neighbour_keys i t = only (place part.Neighbour i 0) neighbour_keys t
