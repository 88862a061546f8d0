-- While no arrival is open, the end changes nothing.
use Rattle.std.proofs.Common.{◌≡◌, ℕ, ◌+◌, Bool, true, false, List, [], ◌∷◌, ◌++◌, refl, sym, ap, ◌∙◌}
use Rattle.std.specs.Prelude.{if◌then◌else◌}
use Rattle.afdx_police.specs.Arrival.{Arrival}
use Rattle.afdx_conform.specs.Ahead.{until_then, NoneIsOpen, EndChangesNothing}
use Rattle.afdx_conform.specs.Levels.{Levels, may_pass, has_to_pass, charged, refused, first_levels}
use Rattle.afdx_conform.specs.Streams.{Gone, Terms, fits, is_open, is_begun}
use Rattle.afdx_conform.specs.Explanations.{link, charge, last_time, levels_then}
use Rattle.afdx_conform.specs.States.{Came, Closing, State, state_with, arrivals_came, led_by, kept, are_behind, first_states, accepted_states, states_at, states_after}

pub led-same : (f g : State → List State) → ((s : State) → f s ≡ g s) → (xs : List State) → led_by f xs ≡ led_by g xs
unfolding led_by
led-same f g same [] = refl
led-same f g same (x ∷ xs) =
    ap (λ (l : List State). l ++ led_by f xs) (same x) ∙ ap (λ (l : List State). g x ++ l) (led-same f g same xs)

if-false : {X : Type 0} (b : Bool) (u v : X) → b ≡ false → (if b then u else v) ≡ v
if-false true u v e = absurd (cc)
if-false false u v e = refl

module _ (z : Terms) (until : ℕ) where
  abbrev w : Terms
  w = until_then until z

  same-accepted : (x : Arrival) (levels : Levels) (n : ℕ) (rest : List Gone) → is_open z x ≡ false → is_open w x ≡ false
      → accepted_states w x levels n rest ≡ accepted_states z x levels n rest
  unfolding fits
  same-accepted x levels n [] a b =
      if-false (is_open w x) (state_with [] levels (n + 1) ∷ []) [] b
      ∙ sym (if-false (is_open z x) (state_with [] levels (n + 1) ∷ []) [] a)
  same-accepted x levels n (y ∷ rest) a b = refl

  pub same-at : (x : Arrival) (levels : Levels) (s : State) → is_open z x ≡ false → is_open w x ≡ false
      → states_at w x levels s ≡ states_at z x levels s
  unfolding states_at
  same-at x levels s a b =
      ap (λ (l : List State). (if may_pass (link z) z.by (charge z x) levels then l else [])
      ++ (if has_to_pass (link z) z.by (charge z x) levels then []
      else state_with s.rest (refused (link z) z.by (charge z x) levels) s.waiting ∷ []))
      (same-accepted x (charged (link z) z.by (charge z x) levels) s.waiting s.rest a b)

  pub same-first : (levels : Levels) (ys : List Gone) → first_states w levels ys ≡ first_states z levels ys
  unfolding first_states is_begun
  same-first levels [] = refl
  same-first levels (y ∷ ys) =
      ap (λ (l : List State). state_with (y ∷ ys) levels 0 ∷ (if is_begun z y then l else [])) (same-first levels ys)

pub end_same : EndChangesNothing
unfolding states_after NoneIsOpen
end_same z until ys [] a b = same-first z until (first_levels (link z) z.by z.by.start) ys
end_same z until ys (Came x ∷ before) a b =
    ap (λ (l : List State). led_by
    (λ s. states_at (until_then until z) x (levels_then z s.levels (last_time z.by (arrivals_came before)) x) s) l)
    (end_same z until ys before a.1 b.1)
    ∙ led-same _ _ (λ s. same-at z until x (levels_then z s.levels (last_time z.by (arrivals_came before)) x) s a.0 b.0)
    (states_after z ys before)
end_same z until ys (Closing time ∷ before) a b =
    ap (λ (l : List State). kept (λ s. are_behind time s.rest) l) (end_same z until ys before a b)
