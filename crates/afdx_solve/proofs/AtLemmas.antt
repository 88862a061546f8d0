-- What stands at a switch and at a place there, in switches that are alike, and in changed ones.
use Rattle.std.proofs.Common.{◌≡◌, inl, inr, ◌⊎◌, ℕ, zero, suc, List, [], ◌∷◌, Option, Some, None, slice_get}
use Rattle.std.proofs.Common.{option_map, option_and_then, refl, sym, ap, ◌∙◌}
use Rattle.std.specs.List.{AllZip}
use Rattle.std.proofs.lemmas.Option.{same_Some}
use Rattle.afdx_config.specs.declared.rows.Times.{Times}
use Rattle.afdx_config.specs.Rows.{LinkRow, Rows}
use Rattle.afdx_config.specs.Changed.{with_times, changed_at, with_buffer}
use Rattle.afdx_config.specs.Switches.{NamedRows, named_rows}
use Rattle.afdx_config.specs.AtSwitch.{tables_at, link_at}
use Rattle.afdx_config.specs.ChangedSwitches.{changed_switch, with_times_at, with_buffer_at, bare_link, bare, bare_switch, AreAlike}
use Rattle.afdx_admit.proofs.CascadeLemmas.{with_tables}
use Rattle.afdx_solve.proofs.ZipLemmas.{zip-get, zip-there, zip-from}

-- the tables of a switch and the row at a place there
pub link-at : (ss : List NamedRows) (k i : ℕ) (t : Rows) (l : LinkRow) → tables_at ss k ≡ Some t
    → slice_get t.links i ≡ Some l → link_at ss k i ≡ Some l
link-at ss k i t l at row =
    let s = with_tables (slice_get ss k) t at in
    ap (option_and_then (λ (r : NamedRows). slice_get r.rows.links i)) s.1 ∙ row

pub at-link : (ss : List NamedRows) (k i : ℕ) (l : LinkRow) → link_at ss k i ≡ Some l
    → (t : Rows) × (tables_at ss k ≡ Some t) × (slice_get t.links i ≡ Some l)
at-link ss k i l = by (slice_get ss k) refl
  where
    by : (o : Option NamedRows) → slice_get ss k ≡ o → option_and_then (λ (s : NamedRows). slice_get s.rows.links i) o
        ≡ Some l
        → (t : Rows) × (tables_at ss k ≡ Some t) × (slice_get t.links i ≡ Some l)
    by None at e = absurd (cc e)
    by (Some s) at e = (s.rows, ap (option_map (λ (r : NamedRows). r.rows)) at, e)

pub link-one : (ss : List NamedRows) (k i : ℕ) (l m : LinkRow) → link_at ss k i ≡ Some l → link_at ss k i ≡ Some m
    → l ≡ m
link-one ss k i l m d e = same_Some l m (sym d ∙ e)

pub tables-one : (ss : List NamedRows) (k : ℕ) (t u : Rows) → tables_at ss k ≡ Some t → tables_at ss k ≡ Some u → t ≡ u
tables-one ss k t u d e = same_Some t u (sym d ∙ e)

-- ---- alike

module _ (a b : List NamedRows) (alike : AreAlike a b) where
  abbrev AreOne : NamedRows → NamedRows → Type 0
  AreOne s v = bare_switch s ≡ bare_switch v

  all-one : AllZip AreOne a b
  all-one = zip-from bare_switch AreOne a b alike (λ k s v at at' same. same)

  pub alike-tables : (k : ℕ) (t : Rows) → tables_at a k ≡ Some t
      → (u : Rows) × (tables_at b k ≡ Some u) × (bare t ≡ bare u)
  alike-tables k t at =
      let s = with_tables (slice_get a k) t at in
      let v = zip-there AreOne (slice_get a k) (slice_get b k) (named_rows s.0 t) (zip-get AreOne a b all-one k) s.1 in
      (v.0.rows, ap (option_map (λ (r : NamedRows). r.rows)) v.1, ap (λ (r : NamedRows). r.rows) v.2)

  pub alike-link : (k i : ℕ) (l : LinkRow) → link_at a k i ≡ Some l
      → (m : LinkRow) × (link_at b k i ≡ Some m) × (bare_link l ≡ bare_link m)
  alike-link k i l row =
      let t = at-link a k i l row in
      let u = alike-tables k t.0 t.1 in
      let links = zip-from bare_link (λ x y. bare_link x ≡ bare_link y) t.0.links u.0.links
      (ap (λ (r : Rows). r.links) u.2) (λ j x y d e same. same) in
      let m = zip-there (λ x y. bare_link x ≡ bare_link y) (slice_get t.0.links i) (slice_get u.0.links i) l
      (zip-get (λ x y. bare_link x ≡ bare_link y) t.0.links u.0.links links i) t.2 in
      (m.0, link-at b k i u.0 m.0 u.1 m.1, m.2)

-- ---- changed

-- a row at a place, where a link has other times
abbrev pub IsRowOf : (times : Times) (here : Type 0) (l m : LinkRow) → Type 0
IsRowOf times here l m = (m ≡ l) ⊎ (here × (m ≡ with_times times l))

pub links-cases : (times : Times) (ls : List LinkRow) (i j : ℕ) (m : LinkRow) → slice_get (changed_at i times ls) j
    ≡ Some m
    → (l : LinkRow) × (slice_get ls j ≡ Some l) × IsRowOf times (j ≡ i) l m
unfolding changed_at
links-cases times [] i j m at = absurd (cc at)
links-cases times (l ∷ ls) zero zero m at = (l, refl, inr (refl, sym (same_Some (with_times times l) m at)))
links-cases times (l ∷ ls) zero (suc j) m at = (m, at, inl refl)
links-cases times (l ∷ ls) (suc i) zero m at = (m, at, inl refl)
links-cases times (l ∷ ls) (suc i) (suc j) m at =
    let x = links-cases times ls i j m at in
    (x.0, x.1, elim x.2 [ inl same ↦ inl same | inr here ↦ inr (ap suc here.0, here.1) ])

pub times-cases : (times : Times) (ss : List NamedRows) (k i j n : ℕ) (m : LinkRow)
    → link_at (with_times_at k i times ss) j n ≡ Some m
    → (l : LinkRow) × (link_at ss j n ≡ Some l) × IsRowOf times ((j ≡ k) × (n ≡ i)) l m
unfolding changed_switch
times-cases times [] k i j n m at = absurd (cc at)
times-cases times (s ∷ ss) zero i zero n m at =
    let x = links-cases times s.rows.links i n m at in
    (x.0, x.1, elim x.2 [ inl same ↦ inl same | inr here ↦ inr ((refl, here.0), here.1) ])
times-cases times (s ∷ ss) zero i (suc j) n m at = (m, at, inl refl)
times-cases times (s ∷ ss) (suc k) i zero n m at = (m, at, inl refl)
times-cases times (s ∷ ss) (suc k) i (suc j) n m at =
    let x = times-cases times ss k i j n m at in
    (x.0, x.1, elim x.2 [ inl same ↦ inl same | inr here ↦ inr ((ap suc here.0.0, here.0.1), here.1) ])

-- the buffers stay
pub times-buffer : (times : Times) (ss : List NamedRows) (k i j : ℕ) (u : Rows)
    → tables_at (with_times_at k i times ss) j ≡ Some u
    → (t : Rows) × (tables_at ss j ≡ Some t) × (u.buffer ≡ t.buffer)
unfolding changed_switch
times-buffer times [] k i j u at = absurd (cc at)
times-buffer times (s ∷ ss) zero i zero u at = (s.rows, refl, sym (ap (λ (r : Rows). r.buffer) (same_Some _ u at)))
times-buffer times (s ∷ ss) zero i (suc j) u at = (u, at, refl)
times-buffer times (s ∷ ss) (suc k) i zero u at = (u, at, refl)
times-buffer times (s ∷ ss) (suc k) i (suc j) u at = times-buffer times ss k i j u at

-- and where a buffer is another, the links
pub buffer-cases : (buffer : ℕ) (ss : List NamedRows) (k j : ℕ) (u : Rows) → tables_at (with_buffer_at k buffer ss) j
    ≡ Some u
    → (t : Rows) × (tables_at ss j ≡ Some t) × ((u ≡ t) ⊎ ((j ≡ k) × (u ≡ with_buffer buffer t)))
unfolding changed_switch
buffer-cases buffer [] k j u at = absurd (cc at)
buffer-cases buffer (s ∷ ss) zero zero u at = (s.rows, refl, inr (refl, sym (same_Some _ u at)))
buffer-cases buffer (s ∷ ss) zero (suc j) u at = (u, at, inl refl)
buffer-cases buffer (s ∷ ss) (suc k) zero u at = (u, at, inl refl)
buffer-cases buffer (s ∷ ss) (suc k) (suc j) u at =
    let x = buffer-cases buffer ss k j u at in
    (x.0, x.1, elim x.2 [ inl same ↦ inl same | inr here ↦ inr (ap suc here.0, here.1) ])

pub buffer-links : (buffer : ℕ) (ss : List NamedRows) (k j i : ℕ) → link_at (with_buffer_at k buffer ss) j i
    ≡ link_at ss j i
unfolding changed_switch
buffer-links buffer [] k j i = refl
buffer-links buffer (s ∷ ss) zero zero i = refl
buffer-links buffer (s ∷ ss) zero (suc j) i = refl
buffer-links buffer (s ∷ ss) (suc k) zero i = refl
buffer-links buffer (s ∷ ss) (suc k) (suc j) i = buffer-links buffer ss k j i
