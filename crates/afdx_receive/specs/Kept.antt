-- What a receiver keeps of all its links, each found by its identifier.
use Rattle.std.specs.Prelude.{◌≡◌, ℕ, ◌*◌, ◌<◌, ◌≤◌, cond, nat_eq, Option, Some, List, ◌∷◌}
use Rattle.std.specs.Prelude.{length, option_and_then, slice_get}
use Rattle.afdx_frame.specs.declared.link.Side.{Side}
use Rattle.afdx_receive.specs.Integrity.{Incoming}
use Rattle.afdx_receive.specs.Memory.{Remembers}
use Rattle.afdx_receive.specs.Places.{Paged, place_in}
use Rattle.afdx_receive.specs.Standing.{standing}
use Rattle.afdx_receive.specs.declared.memory.LinkMemory.{LinkMemory}
use Rattle.afdx_receive.specs.declared.memory.Standing.{Standing}

-- by identifier the place of its link's memory, as far as there are such, and the memories
pub record Kept : Type 0 where
  pub places : Paged
  pub memories : List LinkMemory

-- the memory of the link of an identifier, if it is kept
unfoldable pub memory_at : Kept → ℕ → Option LinkMemory
memory_at kept vl =
    option_and_then (λ place. slice_get kept.memories place) (place_in kept.places vl)

-- each link that is kept has a memory of its own, which knows its link
pub record IsKept (kept : Kept) : Type 0 where
  pub within : (vl place : ℕ) → place_in kept.places vl ≡ Some place → place < length kept.memories
  pub own : (a b place : ℕ) →
      place_in kept.places a ≡ Some place →
      place_in kept.places b ≡ Some place →
      a ≡ b
  pub named : (place : ℕ) (memory : LinkMemory) →
      slice_get kept.memories place ≡ Some memory →
      place_in kept.places memory.vl.0 ≡ Some place
  pub few : length kept.places.slots ≤ 16 * length kept.memories

-- a frame of a link that is kept stands so, and the link's memory, and no other, takes it in
pub record IsConsidered (old : Kept) (vl time : ℕ) (side : Side) (number : ℕ) (how : Standing)
    (new : Kept) : Type 0 where
  pub memory : LinkMemory
  pub moved : LinkMemory
  pub found : memory_at old vl ≡ Some memory
  pub skew : moved.skew_ns ≡ memory.skew_ns
  pub stands : (before : List Incoming) (link : ℕ) (bytes : List ℕ) →
      Remembers memory before →
      how ≡ standing memory.skew_ns before
      (record { time = time; side = side; vl = link; number = number; bytes = bytes })
  pub remembers : (before : List Incoming) (link : ℕ) (bytes : List ℕ) →
      Remembers memory before →
      Remembers moved
      (record { time = time; side = side; vl = link; number = number; bytes = bytes } ∷ before)
  pub updates : (q : ℕ) → memory_at new q ≡ cond (nat_eq vl q) (Some moved) (memory_at old q)
