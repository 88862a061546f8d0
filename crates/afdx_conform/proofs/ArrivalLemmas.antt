-- What an arrival changes of how far a stream is judged.
use Rattle.std.proofs.Common.{◌≡◌, ℕ, ◌+◌, ◌<◌, ◌≤◌, Bool, false, List, [], ◌∷◌, ◌++◌, map, drop, get_or, length, refl, ap, ◌∙◌, arith}
use Rattle.std.proofs.lemmas.List.{drop_more, drop_all}
use Rattle.std.specs.Prelude.{◌||◌}
use Rattle.std.specs.List.{list_any}
use Rattle.afdx_conform.specs.Findings.{Marked}
use Rattle.afdx_conform.specs.HeldStates.{state_of}
use Rattle.afdx_conform.specs.Marks.{marked_of, marked_all}
use Rattle.afdx_conform.specs.States.{State}
use Rattle.afdx_conform.specs.Streams.{Gone}
use Rattle.afdx_conform.specs.declared.arrived.Arrived.{Arrived}
use Rattle.afdx_conform.specs.declared.finding.Mark.{Mark}
use Rattle.afdx_conform.specs.declared.states.StreamState.{StreamState}

-- one more mark
pub marked-push : (xs : List Arrived) (ms : List Mark) (a : Arrived) (m : Mark) → length ms < length xs
    → marked_all xs (ms ++ (m ∷ [])) ≡ marked_all xs ms ++ (marked_of (get_or xs (length ms) a) m ∷ [])
unfolding marked_all
marked-push [] ms a m lt = absurd (omega (arith, lt))
marked-push (x ∷ xs) [] a m lt = none xs
  where
    none : (l : List Arrived) → marked_of x m ∷ marked_all l [] ≡ marked_of x m ∷ []
    none [] = refl
    none (y ∷ l) = refl
marked-push (x ∷ xs) (n ∷ ms) a m lt = ap (λ (l : List Marked). marked_of x n ∷ l)
    (marked-push xs ms a m (omega (arith, lt)))

-- whether one of the states passes a test
pub any-held : (ys : List Gone) (test : State → Bool) (held : List StreamState) (i : ℕ) (h : StreamState) (b : Bool) →
    i < length held
    → test (state_of ys (get_or held i h)) ≡ b
    → list_any test (map (state_of ys) (drop i held)) ≡ (b || list_any test (map (state_of ys) (drop (i + 1) held)))
any-held ys test held i h b lt e =
    ap (λ (l : List StreamState). list_any test (map (state_of ys) l)) (drop_more held i h lt)
    ∙ ap (λ (c : Bool). c || list_any test (map (state_of ys) (drop (i + 1) held))) e

pub any-held-end : (ys : List Gone) (test : State → Bool) (held : List StreamState) (i : ℕ) → length held ≤ i
    → list_any test (map (state_of ys) (drop i held)) ≡ false
any-held-end ys test held i le = ap (λ (l : List StreamState). list_any test (map (state_of ys) l)) (drop_all i held le)
