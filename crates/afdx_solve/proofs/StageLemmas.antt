-- Links that are changed one after the other.
use Rattle.std.proofs.Common.{◌≡◌, ℕ, zero, suc, ◌+◌, ◌≤◌, List, [], ◌∷◌, length, map, Some}
use Rattle.std.proofs.Common.{slice_get, refl, sym, ap, ◌∙◌, arith}
use Rattle.std.proofs.lemmas.Option.{same_Some}
use Rattle.afdx_config.specs.declared.rows.Times.{Times}
use Rattle.afdx_config.specs.Rows.{LinkRow, Rows}
use Rattle.afdx_config.specs.Changed.{with_times, changed_at, with_link_at}

abbrev pub with_links : Rows → List LinkRow → Rows
with_links t ls = record t { links = ls }

module _ {X : Type 0} (f : X → X) where
  -- the first ones, as many as this, are changed
  unfoldable pub changed_first : ℕ → List X → List X
  changed_first zero xs = xs
  changed_first (suc i) [] = []
  changed_first (suc i) (x ∷ xs) = f x ∷ changed_first i xs

  pub get-first : (i : ℕ) (xs : List X) → slice_get (changed_first i xs) i ≡ slice_get xs i
  unfolding changed_first
  get-first zero xs = refl
  get-first (suc i) [] = refl
  get-first (suc i) (x ∷ xs) = get-first i xs

  pub length-first : (i : ℕ) (xs : List X) → length (changed_first i xs) ≡ length xs
  unfolding changed_first
  length-first zero xs = refl
  length-first (suc i) [] = refl
  length-first (suc i) (x ∷ xs) = ap suc (length-first i xs)

  pub past-first : (i : ℕ) (xs : List X) → length xs ≤ i → changed_first i xs ≡ map f xs
  unfolding changed_first
  past-first zero [] h = refl
  past-first zero (x ∷ xs) h = absurd (omega (arith, h))
  past-first (suc i) [] h = refl
  past-first (suc i) (x ∷ xs) h = ap (λ rest. f x ∷ rest) (past-first i xs (omega (arith, h)))

module _ (f : LinkRow → LinkRow) where
  pub none_changed : (t : Rows) → t ≡ with_links t (changed_first f 0 t.links)
  unfolding changed_first
  none_changed t = refl

  set-first : (times : Times) (i : ℕ) (ls : List LinkRow) (l : LinkRow) → slice_get ls i ≡ Some l
      → with_times times l ≡ f l → changed_at i times (changed_first f i ls) ≡ changed_first f (suc i) ls
  unfolding changed_first changed_at
  set-first times zero [] l at same = refl
  set-first times zero (x ∷ ls) l at same =
      ap (λ y. y ∷ ls) (ap (with_times times) (same_Some x l at) ∙ same ∙ ap f (sym (same_Some x l at)))
  set-first times (suc i) [] l at same = refl
  set-first times (suc i) (x ∷ ls) l at same = ap (λ rest. f x ∷ rest) (set-first times i ls l at same)

  pub stage-next : (t now new : Rows) (i : ℕ) (times : Times) (l : LinkRow)
      → now ≡ with_links t (changed_first f i t.links) → slice_get t.links i ≡ Some l
      → with_times times l ≡ f l → new ≡ with_link_at i times now
      → new ≡ with_links t (changed_first f (i + 1) t.links)
  stage-next t now new i times l so_far at same e =
      e ∙ ap (with_link_at i times) so_far
      ∙ ap (with_links t) (set-first times i t.links l at same)
      ∙ ap (λ k. with_links t (changed_first f k t.links)) (let s : suc i ≡ i + 1 = omega arith in s)

  pub stage-done : (t now : Rows) (i : ℕ) → now ≡ with_links t (changed_first f i t.links) → length t.links ≤ i
      → now ≡ with_links t (map f t.links)
  stage-done t now i so_far past = so_far ∙ ap (with_links t) (past-first f i t.links past)
