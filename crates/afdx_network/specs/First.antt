-- Which side's turn goes first.
use Rattle.std.specs.Prelude.{ℕ, ◌≡◌, ◌<◌, ◌≤◌, Option, Some, None, IfSome}
use Rattle.afdx_frame.specs.declared.link.Side.{Side}
use Rattle.afdx_frame.specs.declared.link.Side.TheVariants.{A, B}
use Rattle.afdx_port.specs.declared.left.Due.{Due}
use Rattle.afdx_port.specs.Due.{given_at, IsBy, IsAfter, order_of}
use Rattle.afdx_port.specs.Times.{drain_end}

-- of two turns that stand here in the order of turns, of side A and of side B, this is the first
pub record IsFirstOf (a b order : ℕ) (side : Side) : Type 0 where
  pub least_a : order ≤ a
  pub least_b : order ≤ b
  pub at_a : side ≡ A → order ≡ a
  pub at_b : side ≡ B → (order ≡ b) × (order < a)

-- the turn that is due at A is given by then, and goes before that of B or together with it
pub record IsAFirst (until : ℕ) (a b : Option Due) : Type 0 where
  pub due : Due
  pub is : a ≡ Some due
  pub in_time : IsBy until due
  pub first : IfSome b (λ other. order_of due ≤ order_of other)

-- the turn that is due at B is given by then, and goes before that of A
pub record IsBFirst (until : ℕ) (a b : Option Due) : Type 0 where
  pub due : Due
  pub is : b ≡ Some due
  pub in_time : IsBy until due
  pub first : IfSome a (λ other. order_of due < order_of other)

-- no turn is given by then
pub record AreLater (until : ℕ) (a b : Option Due) : Type 0 where
  pub on_a : IfSome a (λ due. IsAfter until due)
  pub on_b : IfSome b (λ due. IsAfter until due)

-- the side whose turn goes first, if it is given by then
abbrev pub IsFirstSide : ℕ → Option Due → Option Due → Option Side → Type 0
IsFirstSide until a b None = AreLater until a b
IsFirstSide until a b (Some A) = IsAFirst until a b
IsFirstSide until a b (Some B) = IsBFirst until a b

-- what is due is given by 1.2e15 ns
abbrev pub IsLimited : Option Due → Type 0
IsLimited o = IfSome o (λ due. given_at due ≤ drain_end)
