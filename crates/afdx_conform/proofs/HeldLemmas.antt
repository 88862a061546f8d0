-- Where an arrival leads to from a state that the code holds.
use Rattle.std.proofs.Common.{◌≡◌, ℕ, zero, suc, ◌+◌, Bool, true, false, List, [], ◌∷◌, ◌++◌, map, drop, take, get_or, length, ◌<◌, ◌≤◌, refl, sym, ap, ◌∙◌, subst, arith}
use Rattle.std.proofs.lemmas.List.{map-append, take_more, append_assoc, append-nil}
use Rattle.std.specs.Prelude.{if◌then◌else◌, Option, Some, None, IfSome}
use Rattle.afdx_conform.specs.Accounts.{AreLevels, AreNear}
use Rattle.afdx_conform.specs.declared.levels.Rates.{Rates}
use Rattle.afdx_police.specs.Arrival.{Arrival}
use Rattle.afdx_conform.specs.Levels.{Levels}
use Rattle.afdx_conform.specs.Streams.{Gone, Terms, fits}
use Rattle.afdx_conform.specs.States.{State, state_with, accepted_states, led_by}
use Rattle.afdx_conform.specs.declared.states.Case.{Case}
use Rattle.afdx_conform.specs.declared.states.StreamState.{StreamState}
use Rattle.afdx_conform.specs.HeldStates.{IsNext, IsWithin}
use Rattle.afdx_conform.specs.declared.states.NextFrame.TheVariants.{Fits}

pub if-true : {X : Type 0} (b : Bool) (u v : X) → b ≡ true → (if b then u else v) ≡ u
if-true true u v e = refl
if-true false u v e = absurd (cc)

pub if-false : {X : Type 0} (b : Bool) (u v : X) → b ≡ false → (if b then u else v) ≡ v
if-false true u v e = absurd (cc)
if-false false u v e = refl

drop-next : (p : ℕ) (ys : List Gone) (y : Gone) (rest : List Gone) → drop p ys ≡ (y ∷ rest) → rest ≡ drop (p + 1) ys
drop-next zero [] y rest e = absurd (cc)
drop-next zero (w ∷ ys) y rest e = let same : ys ≡ rest = cc in sym same
drop-next (suc p) [] y rest e = absurd (cc)
drop-next (suc p) (w ∷ ys) y rest e =
    let on : suc p + 1 ≡ suc (p + 1) = omega arith in
    drop-next p ys y rest e ∙ sym (ap (λ n. drop n (w ∷ ys)) on)

module _ (z : Terms) (x : Arrival) (levels : Levels) (n p : ℕ) (ys : List Gone) where
  pub next-fits : IsNext z x (drop p ys) Fits → accepted_states z x levels n (drop p ys) ≡ state_with
      (drop (p + 1) ys) levels n ∷ []
  next-fits h = by (drop p ys) refl h
    where
      by : (rest : List Gone) → drop p ys ≡ rest → IsNext z x rest Fits
          → accepted_states z x levels n rest ≡ state_with (drop (p + 1) ys) levels n ∷ []
      by [] e h = absurd h
      by (y ∷ rest) e h =
          if-true (fits z x y) (state_with rest levels n ∷ []) [] h
          ∙ ap (λ (r : List Gone). state_with r levels n ∷ []) (drop-next p ys y rest e)

-- ---- all of them

pub led-append : (f : State → List State) (xs ys : List State) → led_by f (xs ++ ys) ≡ led_by f xs ++ led_by f ys
unfolding led_by
led-append f [] ys = refl
led-append f (x ∷ xs) ys =
    ap (λ (l : List State). f x ++ l) (led-append f xs ys) ∙ sym (append_assoc (f x) (led_by f xs) (led_by f ys))

led-one : (f : State → List State) (x : State) → led_by f (x ∷ []) ≡ f x
unfolding led_by
led-one f x = append-nil (f x)

pub one-more : (f : State → List State) (g : Case → State) (xs : List Case) (i : ℕ) (d : Case) → i < length xs
    → led_by f (map g (take (i + 1) xs)) ≡ led_by f (map g (take i xs)) ++ f (g (get_or xs i d))
one-more f g xs i d h =
    ap (λ (l : List Case). led_by f (map g l)) (take_more xs i d h)
    ∙ ap (λ (l : List State). led_by f l) (map-append g (take i xs) (get_or xs i d ∷ []))
    ∙ led-append f (map g (take i xs)) (g (get_or xs i d) ∷ [])
    ∙ ap (λ (l : List State). led_by f (map g (take i xs)) ++ l) (led-one f (g (get_or xs i d)))

pub two-pushed : (out one two a b : List StreamState) → one ≡ out ++ a → two ≡ one ++ b → two ≡ out ++ (a ++ b)
two-pushed out one two a b e k = k ∙ ap (λ (l : List StreamState). l ++ b) e ∙ append_assoc out a b

pub pushed : (g : StreamState → State) (out one two a b : List StreamState) → one ≡ out ++ a → two ≡ one ++ b
    → map g two ≡ map g out ++ map g (a ++ b)
pushed g out one two a b e k =
    ap (λ (l : List StreamState). map g l) (two-pushed out one two a b e k)
    ∙ map-append g out (a ++ b)

-- what an arrival that is accepted leads to is within bounds
pub accepted-within : (rates : Rates) (frames count waiting : ℕ) (levels : Levels) (held : Option StreamState)
    → IfSome held (λ h. h.levels ≡ levels) → IfSome held (λ h. h.waiting ≤ waiting + 1) → waiting ≤ count
    → IfSome held (λ h. h.passed ≤ frames) → AreLevels rates levels → AreNear rates levels
    → IfSome held (λ h. IsWithin rates frames (count + 1) h)
accepted-within rates frames count waiting levels None e w le p bounded near = tt
accepted-within rates frames count waiting levels (Some h) e w le p bounded near = record {
  passed = p;
  waiting = omega (arith, w, le);
  levels = subst (λ (l : Levels). AreLevels rates l) (sym e) bounded;
  near = subst (λ (l : Levels). AreNear rates l) (sym e) near;
}
