-- What the links of a text ask for, as it stands there: latencies, also those out of range.
use Rattle.std.specs.Prelude.{◌≡◌, ℕ, ℤ, pos, negsuc, List, [], map, Option, Some, None, Vec}
use Rattle.std.specs.Prelude.{option_and_then, Result, Ok, Err, IsUtf8}
use Rattle.std.specs.declared.alloc.Global.{Global}
use Rattle.toml.specs.Parse.{parse_document}
use Rattle.toml.specs.Data.{Data, Members, get_member, as_integer}
use Rattle.afdx_config.specs.declared.fault.ConfigFault.{ConfigFault}
use Rattle.afdx_config.specs.Keys.{Spot, top_at, link_at, switch_at, switches_at, tables}

-- a whole number from 0 on
abbrev pub from_zero : ℤ → Option ℕ
from_zero (pos n) = Some n
from_zero (negsuc n) = None

abbrev pub number_of : Data → Option ℕ
number_of value = option_and_then from_zero (as_integer value)

-- the latency that a link's table asks for, in us; none where the key isn't there
unfoldable pub latency_of : Members → Option ℕ
latency_of t = option_and_then number_of (get_member (link_at 1 10).name t)

-- the tables that stand at a key; none where it has no list of them
abbrev pub list_or_none : Result (List Members) ConfigFault → List Members
list_or_none (Ok ts) = ts
list_or_none (Err e) = []

unfoldable pub listed : Spot → Members → List Members
listed at t = list_or_none (tables at t)

-- the latencies that the links of a table ask for, which stand at this key, in their order
unfoldable pub latencies_at : Spot → Members → List (Option ℕ)
latencies_at at t = map latency_of (listed at t)

-- those of a file of one switch, and for each switch those of a file of several
abbrev pub latencies_in : Members → List (Option ℕ)
latencies_in tree = latencies_at (top_at 4) tree

abbrev pub latencies_by_switch : Members → List (List (Option ℕ))
latencies_by_switch tree = map (latencies_at (switch_at 4)) (listed switches_at tree)

-- the text spells a tree whose links ask for these latencies
abbrev pub Asks : List ℕ → List (Option ℕ) → Type 0
Asks text latencies =
    IsUtf8 text
    × ((tree : Members) × (parse_document text ≡ Some tree) × (latencies_in tree ≡ latencies))

-- and of several switches, a list for each
abbrev pub AskBySwitch : List ℕ → List (List (Option ℕ)) → Type 0
AskBySwitch text latencies =
    IsUtf8 text
    × ((tree : Members)
    × (parse_document text ≡ Some tree)
    × (latencies_by_switch tree ≡ latencies))

-- what lists of the code hold
abbrev pub lists : List (Vec (Option ℕ) Global) → List (List (Option ℕ))
lists vs = map (λ v. v.items) vs
