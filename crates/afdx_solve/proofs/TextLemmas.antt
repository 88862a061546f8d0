-- What is written for the first of some rows.
use Rattle.std.proofs.Common.{◌≡◌, ℕ, zero, suc, ◌+◌, ◌≤◌, List, [], ◌∷◌, ◌++◌, take, drop, slice_get, Option, Some, None, sym, ap, ◌∙◌}
use Rattle.std.proofs.Common.{option_map, refl, codes, arith, append_assoc, append-nil, add-one}
use Rattle.std.proofs.lemmas.Option.{same_Some}
use Rattle.afdx_config.specs.Rows.{Rows}
use Rattle.afdx_config.specs.Switches.{NamedRows, named_rows}
use Rattle.afdx_solve.specs.ConfigText.{text_line, top_text}
use Rattle.afdx_solve.specs.CascadeText.{parts_text, switch_text, cascade_text}
use Rattle.std.specs.List.{flat_map}

taken-next : {R : Type 0} (f : R → List ℕ) (rows : List R) (i : ℕ) (r : R) → slice_get rows i ≡ Some r
    → flat_map f (take (suc i) rows) ≡ flat_map f (take i rows) ++ f r
taken-next f [] i r at = absurd cc
taken-next f (x ∷ rows) zero r at = append-nil (f x) ∙ ap f (same x r at)
  where
    same : {R : Type 0} (x r : R) → Some x ≡ Some r → x ≡ r
    same x r e = cc
taken-next f (x ∷ rows) (suc i) r at =
    ap (λ t. f x ++ t) (taken-next f rows i r at) ∙ sym (append_assoc (f x) (flat_map f (take i rows)) (f r))

-- one row more
pub row-next : {R : Type 0} (f : R → List ℕ) (rows : List R) (i : ℕ) (r : R) (o before after : List ℕ)
    → slice_get rows i ≡ Some r → before ≡ o ++ flat_map f (take i rows) → after ≡ before ++ f r
    → after ≡ o ++ flat_map f (take (i + 1) rows)
row-next f rows i r o before after at so_far new =
    rw (add-one i, new, so_far, taken-next f rows i r at) (append_assoc o (flat_map f (take i rows)) (f r))

-- a row behind some
pub at-behind : {R : Type 0} (n i : ℕ) (rows : List R) (r : R) → slice_get rows (n + i) ≡ Some r
    → slice_get (drop n rows) i ≡ Some r
at-behind zero i rows r at = let e : 0 + i ≡ i = omega arith in rw e at at
at-behind (suc n) i [] r at = absurd cc
at-behind (suc n) i (x ∷ rows) r at =
    let e : suc n + i ≡ suc (n + i) = omega arith in at-behind n i rows r (rw e at at)

-- the switch at a place, by its name and its tables
pub at-switch : (switches : List NamedRows) (k : ℕ) (name : List ℕ) (rows : Rows)
    → option_map (λ s. s.name) (slice_get switches k) ≡ Some name
    → option_map (λ s. s.rows) (slice_get switches k) ≡ Some rows
    → slice_get switches k ≡ Some (named_rows name rows)
at-switch switches k name rows named tables = by (slice_get switches k) named tables
  where
    by : (o : Option NamedRows) → option_map (λ s. s.name) o ≡ Some name → option_map (λ s. s.rows) o ≡ Some rows
        → o ≡ Some (named_rows name rows)
    by None n t = absurd cc
    by (Some s) n t = rw (← same_Some s.name name n, ← same_Some s.rows rows t) refl

-- the first switch, and one more
pub first-switch : (switches : List NamedRows) (s : NamedRows) → slice_get switches 0 ≡ Some s
    → cascade_text (take 1 switches) ≡ switch_text s
unfolding cascade_text
first-switch [] s at = absurd cc
first-switch (x ∷ more) s at = append-nil (switch_text x) ∙ ap switch_text (same_Some x s at)

pub next-switch : (switches : List NamedRows) (i : ℕ) (s : NamedRows) → 1 ≤ i → slice_get switches i ≡ Some s
    → cascade_text (take (i + 1) switches) ≡ cascade_text (take i switches) ++ (codes "\n" ++ switch_text s)
unfolding cascade_text
next-switch switches zero s some at = absurd (omega (arith, some))
next-switch [] (suc i) s some at = absurd cc
next-switch (x ∷ more) (suc i) s some at =
    let next = taken-next (λ s. codes "\n" ++ switch_text s) more i s at in
    rw (add-one (suc i), next) (sym (append_assoc (switch_text x) _ _))

-- a switch is written part by part
pub switch-written : (s : NamedRows) (o a b c d : List ℕ) → a ≡ o ++ codes "[[switch]]\n"
    → b ≡ a ++ text_line (codes "name") s.name → c ≡ b ++ top_text s.rows → d ≡ c ++ parts_text s.rows
    → d ≡ o ++ switch_text s
unfolding switch_text
switch-written s o a b c d header name top parts = rw (parts, top, name, header) (simp append_assoc refl)
