-- One state that leads to one state.
use Rattle.std.proofs.Common.{◌≡◌, ◌≤◌, ◌<◌, List, [], ◌∷◌, map, get_or, length, refl, ap, ◌∙◌, arith}
use Rattle.std.proofs.lemmas.List.{append-nil}
use Rattle.std.specs.Prelude.{Option, Some, None, IfSome}
use Rattle.afdx_conform.specs.Findings.{thinned_onto, one_more}
use Rattle.afdx_conform.specs.HeldStates.{state_of}
use Rattle.afdx_conform.specs.States.{State, led_by}
use Rattle.afdx_conform.specs.Streams.{Gone}
use Rattle.afdx_conform.specs.declared.states.StreamState.{StreamState}

pub some-on : {X : Type 0} {P Q : X → Type 0} (o : Option X) → ((x : X) → P x → Q x) → IfSome o P → IfSome o Q
some-on None f h = tt
some-on (Some x) f h = f x h

-- a list of one is its first
pub alone : (l : List StreamState) (d : StreamState) → 1 ≤ length l → length l < 2 → l ≡ get_or l 0 d ∷ []
alone [] d few most = absurd (omega (arith, few))
alone (x ∷ []) d few most = refl
alone (x ∷ y ∷ l) d few most = absurd (omega (arith, most))

module _ (ys : List Gone) where
  -- where the one state leads to
  pub led-alone : (lead : State → List State) (l : List StreamState) (h : StreamState) → l ≡ h ∷ []
      → led_by lead (map (state_of ys) l) ≡ lead (state_of ys h)
  unfolding led_by
  led-alone lead l h e =
      ap (λ (k : List StreamState). led_by lead (map (state_of ys) k)) e ∙ append-nil (lead (state_of ys h))

  -- none outdoes the one state
  pub thinned-alone : (h : StreamState) → map (state_of ys) (h ∷ []) ≡ thinned_onto [] (map (state_of ys) (h ∷ []))
  unfolding thinned_onto one_more
  thinned-alone h = refl
