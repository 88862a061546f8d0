-- Arrivals that are held: which of them comes first.
use Rattle.std.specs.Prelude.{ℕ, ◌*◌, ◌+◌, ◌≡◌, ◌≤◌, Bool, ◌==◌, List, [], ◌∷◌, ⊤}
use Rattle.std.specs.List.{All}
use Rattle.std.specs.Ordering.{nat_cmp, flip_args, on}
use Rattle.std.specs.declared.cmp.Ordering.{Ordering}
use Rattle.afdx_input_sources.specs.Engine.{Item, item_of}
use Rattle.afdx_input_sources.specs.declared.becoming.FoundFrame.{FoundFrame}
use Rattle.afdx_input_sources.specs.declared.number.Number.{Number}
use Rattle.afdx_input_sources.specs.declared.number.Number.TheVariants.{Arrival}
use Rattle.afdx_input_sources.specs.Ordering.{moment_of}

-- an arrival that is held
abbrev pub arrival_item : ℕ → FoundFrame → List ℕ → Item Number
arrival_item number found bytes = item_of number (Arrival found) bytes

-- by their moments, and by their numbers where these are the same
abbrev pub rank : Item Number → ℕ
rank x = moment_of x * 0x10000000000000000 + x.number

-- as a heap has them, the first on top
abbrev pub is_same_rank : Item Number → Item Number → Bool
is_same_rank = on rank ◌==◌

abbrev pub by_rank : Item Number → Item Number → Ordering
by_rank = flip_args (on rank nat_cmp)

-- none of these comes before it
abbrev pub ComesFirst : Item Number → List (Item Number) → Type 0
ComesFirst x held = All (λ y. rank x ≤ rank y) held

-- they stand as they come
abbrev pub AreRising : List (Item Number) → Type 0
AreRising [] = ⊤
AreRising (x ∷ held) = ComesFirst x held × AreRising held

-- none of the others comes before the one on top of these, and where there is none, there are no
-- others
abbrev pub Leads : List (Item Number) → List (Item Number) → Type 0
Leads [] others = others ≡ []
Leads (x ∷ held) others = ComesFirst x others

-- none of these has a greater rank
abbrev pub AreBehind : List (Item Number) → ℕ → Type 0
AreBehind held newest = All (λ y. rank y ≤ newest) held
