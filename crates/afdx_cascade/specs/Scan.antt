-- Which of some switches has the first turn.
use Rattle.std.specs.Prelude.{◌≡◌, ℕ, ◌+◌, nat_lt, if◌then◌else◌, Option, Some, None, List, [], ◌∷◌}
use Rattle.afdx_frame.specs.declared.link.Side.{Side}
use Rattle.afdx_frame.specs.declared.link.Side.TheVariants.{A, B}
use Rattle.afdx_network.specs.Network.{TellsOrder}
use Rattle.afdx_network.specs.declared.network.Network.{Network}
use Rattle.afdx_cascade.specs.declared.scan.FirstTurn.{FirstTurn}

-- how many switches a side may have
abbrev pub switches_most : ℕ
switches_most = 24

-- of two turns with one number: that of side A, and of one side the first
abbrev pub by_side : Side → Side → FirstTurn → FirstTurn → FirstTurn
by_side B A first other = other
by_side A A first other = first
by_side A B first other = first
by_side B B first other = first

-- the earlier of a turn and one of the switches behind, if they have one
abbrev pub earlier_of : FirstTurn → Option FirstTurn → FirstTurn
earlier_of first None = first
earlier_of first (Some other) =
    if nat_lt other.order first.order then other
    else if nat_lt first.order other.order then first
    else by_side first.side other.side first other

abbrev pub first_with : ℕ → ℕ → Side → FirstTurn
first_with order at side = record { order = order; switch = record { 0 = at }; side = side }

-- the first turn of these switches, which are numbered from `at` on
abbrev pub IsFirstFrom : ℕ → List Network → Option FirstTurn → Type 0
IsFirstFrom at [] None = Unit {0}
IsFirstFrom at [] (Some f) = ⊥
IsFirstFrom at (n ∷ ns) result =
    (order : ℕ) × (side : Side) × (behind : Option FirstTurn)
    × TellsOrder n order side
    × IsFirstFrom (at + 1) ns behind
    × (result ≡ Some (earlier_of (first_with order at side) behind))
