-- Which of several ports gives its turn first.
use Rattle.std.specs.Prelude.{All, ◌≡◌, ℕ, ◌<◌, ◌≤◌, List, length, Option, Some, None, slice_get}
use Rattle.afdx_port.specs.Times.{drain_end}
use Rattle.afdx_port.specs.declared.left.Due.{Due}
use Rattle.afdx_port.specs.declared.port_state.PortState.{PortState}
use Rattle.afdx_port.specs.Facts.{Facts}
use Rattle.afdx_port.specs.Due.{given_at, order_of, IsBy}
use Rattle.afdx_port.specs.Held.{due_of, IsQuiet}

-- the order of a port that has no turn to come: 2^52, which is after that of each turn
abbrev pub order_without_turn : ℕ
order_without_turn = 4503599627370496

-- the order of the turn that is due, if one is
abbrev pub order_at : Option Due → ℕ
order_at None = order_without_turn
order_at (Some d) = order_of d

-- a turn is due, and is given by t
abbrev pub IsGivenBy : ℕ → Option Due → Type 0
IsGivenBy t None = ⊥
IsGivenBy t (Some d) = IsBy t d

module _ {X : Type 0} where
  -- what is due at the first n ports is given by 1.2e15 ns
  abbrev pub AreLimited : (X → Facts) → List (PortState X) → ℕ → Type 0
  AreLimited facts ports n = (place : ℕ) (p : PortState X) (d : Due) → place < n →
      slice_get ports place ≡ Some p → due_of facts p ≡ Some d → given_at d ≤ drain_end

  -- of these ports this one's turn is the first; if none has a turn to come, it is the first port
  pub record IsFirst (facts : X → Facts) (ports : List (PortState X)) (place : ℕ) : Type 0 where
    pub below : place < length ports
    pub p : PortState X
    pub stands : slice_get ports place ≡ Some p
    pub least : (j : ℕ) (q : PortState X) →
        j < length ports →
        slice_get ports j ≡ Some q →
        order_at (due_of facts p) ≤ order_at (due_of facts q)
    pub first : (j : ℕ) (q : PortState X) →
        j < length ports →
        slice_get ports j ≡ Some q →
        order_at (due_of facts p) ≡ order_at (due_of facts q) →
        place ≤ j

  -- the place of the first turn is known
  pub record AreServed (facts : X → Facts) (ports : List (PortState X)) (place : ℕ) : Type 0 where
    pub first : IsFirst facts ports place
    pub limit : AreLimited facts ports (length ports)

  -- so where that port gives no further turn by a time, no port does
  abbrev pub FirstIsQuiet : (X → Facts) → Type 0
  FirstIsQuiet facts = (ports : List (PortState X)) (place until : ℕ) (p : PortState X) →
      AreServed facts ports place → slice_get ports place ≡ Some p → IsQuiet facts p until →
      All (λ q. IsQuiet facts q until) ports
