-- What is to be told, and what of it comes first.
use Rattle.std.specs.Prelude.{ℕ, ◌+◌, ◌*◌, ◌≡◌, ◌==◌, ◌∷◌, Bool, true, false, List, Option, Some, None, nat_lt}
use Rattle.std.specs.List.{All}
use Rattle.std.specs.List.Sorted.{IsPermutation}
use Rattle.std.specs.Ordering.{nat_cmp, flip_args, on}
use Rattle.std.specs.declared.cmp.Ordering.{Ordering}
use Rattle.afdx_command_conform.specs.declared.agenda.AgendaEntry.{AgendaEntry}
use Rattle.afdx_command_conform.specs.declared.key.Key.{Key}
use Rattle.afdx_command_conform.specs.Keys.{IsKey, key_rank}

-- at this moment, something of this key
abbrev pub awaited : ℕ → Key → AgendaEntry
awaited moment key = record { moment = moment; key = key }

-- by moment, and at one moment by key
abbrev pub rank_of : AgendaEntry → ℕ
rank_of x = x.moment * 0x10000000000000000 + key_rank x.key

-- as a heap has them, the first on top
abbrev pub is_same_rank : AgendaEntry → AgendaEntry → Bool
is_same_rank = on rank_of ◌==◌

abbrev pub by_rank : AgendaEntry → AgendaEntry → Ordering
by_rank = flip_args (on rank_of nat_cmp)

-- its moment lies before that time, if there is one
abbrev pub is_before : Option ℕ → AgendaEntry → Bool
is_before None x = true
is_before (Some time) x = nat_lt x.moment time

abbrev pub IsBefore : Option ℕ → AgendaEntry → Type 0
IsBefore before x = is_before before x ≡ true

-- none of them is to be told before that time
abbrev pub AreNotBefore : Option ℕ → List AgendaEntry → Type 0
AreNotBefore before xs = All (λ x. is_before before x ≡ false) xs

-- all their keys are ones that the code can hold
abbrev pub AreKeys : List AgendaEntry → Type 0
AreKeys xs = All (λ x. IsKey x.key) xs

-- what is newly due is one of them
abbrev pub Awaits : Option ℕ → Key → List AgendaEntry → List AgendaEntry → Type 0
Awaits None key before after = after ≡ before
Awaits (Some moment) key before after = IsPermutation (awaited moment key ∷ before) after
