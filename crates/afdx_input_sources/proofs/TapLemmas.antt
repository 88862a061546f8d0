-- Which ports interfaces tap.
use Rattle.std.proofs.Common.{◌≡◌, ◌+◌, ℕ, Bool, true, false, ◌||◌, suc, zero, refl, ap, sym, ◌∙◌, arith}
use Rattle.std.proofs.Common.{Option, Some, None, slice_index_or, replicate}
use Rattle.afdx_frame.specs.declared.link.Side.{Side}
use Rattle.afdx_input_lines.specs.declared.role.Role.{Role}
use Rattle.afdx_input_sources.specs.declared.places.TapPoint.{TapPoint}
use Rattle.afdx_input_sources.specs.Tapping.{Taps, taps_at, taps_below, taps_by}

pub or-false : (b : Bool) → b ≡ (b || false)
or-false true = refl
or-false false = refl

or-assoc : (a b c : Bool) → ((a || b) || c) ≡ (a || (b || c))
or-assoc true b c = refl
or-assoc false b c = refl

-- none of so many
pub none-of : (n p : ℕ) → slice_index_or (replicate n false) p false ≡ false
none-of zero p = refl
none-of (suc n) zero = refl
none-of (suc n) (suc p) = none-of n p

suc-is : (k : ℕ) → suc k ≡ k + 1
suc-is k = omega arith

-- these taps are those of the first interfaces, behind some others
abbrev pub AreTappedUpTo : (places : ℕ → Option TapPoint) → (old now : Taps) → ℕ → Type 0
AreTappedUpTo places old now k = (role : Role) (side : Side) (port : ℕ) →
    now role side port ≡ (old role side port || taps_below places k role side port)

-- one interface more
next-below : (places : ℕ → Option TapPoint) (k : ℕ) (role : Role) (side : Side) (port : ℕ)
    → (taps_below places k role side port || taps_by (places k) role side port)
    ≡ taps_below places (k + 1) role side port
unfolding taps_below
next-below places k role side port = ap (λ n. taps_below places n role side port) (suc-is k)

module _ (places : ℕ → Option TapPoint) (old : Taps) where
  pub tapped-none : AreTappedUpTo places old old 0
  unfolding taps_below
  tapped-none role side port = or-false (old role side port)

  -- one interface more
  module _ (k : ℕ) (now new : Taps) (h : AreTappedUpTo places old now k) where
    pub tapped-more : (place : TapPoint) → places k ≡ Some place
        → ((role : Role) (side : Side) (port : ℕ)
        → new role side port ≡ (now role side port || taps_at place role side port))
        → AreTappedUpTo places old new (k + 1)
    tapped-more place said more role side port =
        more role side port
        ∙ ap (λ b. b || taps_at place role side port) (h role side port)
        ∙ or-assoc (old role side port) (taps_below places k role side port) (taps_at place role side port)
        ∙ ap (λ (p : Option TapPoint).
        old role side port || (taps_below places k role side port || taps_by p role side port))
        (sym said)
        ∙ ap (λ b. old role side port || b) (next-below places k role side port)

  pub tapped-unsaid : (k : ℕ) (now : Taps) → AreTappedUpTo places old now k → places k ≡ None
      → AreTappedUpTo places old now (k + 1)
  tapped-unsaid k now h unsaid role side port =
      h role side port
      ∙ ap (λ b. old role side port || b) (or-false (taps_below places k role side port))
      ∙ ap (λ (p : Option TapPoint).
      old role side port || (taps_below places k role side port || taps_by p role side port))
      (sym unsaid)
      ∙ ap (λ b. old role side port || b) (next-below places k role side port)
