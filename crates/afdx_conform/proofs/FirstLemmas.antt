-- The states before the first event.
use Rattle.std.proofs.Common.{◌≡◌, ℕ, ◌+◌, Bool, true, false, List, [], ◌∷◌, ◌++◌, map, drop, refl, sym, ap, ◌∙◌}
use Rattle.std.proofs.lemmas.List.{append_assoc, map-append}
use Rattle.std.specs.Prelude.{if◌then◌else◌, nat_lt, Option, Some, None}
use Rattle.afdx_conform.specs.HeldStates.{state_of}
use Rattle.afdx_conform.specs.Levels.{Levels}
use Rattle.afdx_conform.specs.Limits.{AreLimits}
use Rattle.afdx_conform.specs.States.{State, state_with, first_states}
use Rattle.afdx_conform.specs.Streams.{Gone, Terms, is_begun, is_begun_by, latency}
use Rattle.afdx_conform.specs.declared.limits.Limits.{Limits}
use Rattle.afdx_conform.specs.declared.states.StreamState.{StreamState}

module _ (z : Terms) (levels : Levels) (ys : List Gone) where
  -- so many frames may be of arrivals before the start
  pub record AreFirst (out : List StreamState) (place : ℕ) : Type 0 where
    pub before : List State
    pub at : map (state_of ys) out ≡ before ++ (state_with (drop place ys) levels 0 ∷ [])
    pub whole : first_states z levels ys ≡ before ++ first_states z levels (drop place ys)

  abbrev first : StreamState
  first = record { passed = 0; levels = levels; waiting = 0 }

  pub first-one : (out : List StreamState) → out ≡ first ∷ [] → AreFirst out 0
  first-one out e = record { before = []; at = ap (λ (l : List StreamState). map (state_of ys) l) e; whole = refl }

  on : (y : Gone) (rest : List Gone) (b : Bool) → is_begun z y ≡ b
      → first_states z levels (y ∷ rest) ≡ state_with (y ∷ rest) levels 0 ∷ (if b then first_states z levels rest
      else [])
  unfolding first_states
  on y rest b e = ap (λ (c : Bool). state_with (y ∷ rest) levels 0 ∷ (if c then first_states z levels rest else [])) e

  end : first_states z levels [] ≡ state_with [] levels 0 ∷ []
  unfolding first_states
  end = refl

  pub first-end : (out : List StreamState) (place : ℕ) → drop place ys ≡ [] → AreFirst out place
      → map (state_of ys) out ≡ first_states z levels ys
  first-end out place e f =
      f.at ∙ ap (λ (l : List Gone). f.before ++ (state_with l levels 0 ∷ [])) e
      ∙ ap (λ (l : List State). f.before ++ l) (sym end)
      ∙ ap (λ (l : List Gone). f.before ++ first_states z levels l) (sym e) ∙ sym f.whole

  module _ (out : List StreamState) (place : ℕ) (y : Gone) (f : AreFirst out place)
      (next : drop place ys ≡ y ∷ drop (place + 1) ys) where
    pub first-stop : is_begun z y ≡ false → map (state_of ys) out ≡ first_states z levels ys
    first-stop e =
        f.at ∙ ap (λ (l : List Gone). f.before ++ (state_with l levels 0 ∷ [])) next
        ∙ ap (λ (l : List State). f.before ++ l) (sym (on y (drop (place + 1) ys) false e))
        ∙ ap (λ (l : List Gone). f.before ++ first_states z levels l) (sym next) ∙ sym f.whole

    pub first-more : (more : List StreamState) → is_begun z y ≡ true
        → more ≡ out ++ (record { passed = place + 1; levels = levels; waiting = 0 } ∷ []) → AreFirst more (place + 1)
    first-more more e is = record {
      before = f.before ++ (state_with (drop place ys) levels 0 ∷ []);
      at = ap (λ (l : List StreamState). map (state_of ys) l) is
          ∙ map-append (state_of ys) out (record { passed = place + 1; levels = levels; waiting = 0 } ∷ [])
          ∙ ap (λ (l : List State). l ++ (state_with (drop (place + 1) ys) levels 0 ∷ [])) f.at;
      whole = f.whole ∙ ap (λ (l : List Gone). f.before ++ first_states z levels l) next
          ∙ ap (λ (l : List State). f.before ++ l) (on y (drop (place + 1) ys) true e)
          ∙ ap (λ (l : List Gone). f.before ++ (state_with l levels 0 ∷ first_states z levels (drop (place + 1) ys)))
          (sym next)
          ∙ sym (append_assoc f.before (state_with (drop place ys) levels 0 ∷ [])
          (first_states z levels (drop (place + 1) ys)));
    }

-- ---- what may be of arrivals before the start

pub begun-none : (z : Terms) (y : Gone) → z.by.start ≡ None → false ≡ is_begun z y
unfolding is_begun
begun-none z y e = sym (ap (λ (s : Option ℕ). is_begun_by z s y) e)

pub begun-some : (z : Terms) (y : Gone) (l : Limits) (start : ℕ) → AreLimits z l → z.by.start ≡ Some start
    → nat_lt y.time (start + l.latency + l.reach) ≡ is_begun z y
unfolding is_begun
begun-some z y l start a e =
    ap (λ (n : ℕ). nat_lt y.time (start + n + l.reach)) a.latency
    ∙ ap (λ (n : ℕ). nat_lt y.time (start + latency z + n)) a.reach
    ∙ sym (ap (λ (s : Option ℕ). is_begun_by z s y) e)
