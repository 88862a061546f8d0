-- Rows, and switches, that are raised one after the other.
use Rattle.std.proofs.Common.{◌≡◌, ℕ, ◌+◌, ◌<◌, ◌≤◌, Bool, true, false, ◌||◌, List, length, Some, is_some, IsSome, slice_get, refl, sym, ap, ◌∙◌, subst, arith, inl, inr}
use Rattle.std.proofs.lemmas.Bool.{cases_lt}
use Rattle.afdx_config.specs.Rows.{LinkRow, Rows}
use Rattle.afdx_config.specs.Switches.{NamedRows}
use Rattle.afdx_config.specs.AtSwitch.{tables_at, link_at}
use Rattle.afdx_config.specs.ChangedSwitches.{AreAlike}
use Rattle.afdx_admit.specs.Sums.{AreJitters}
use Rattle.std.proofs.lemmas.Option.{slice_get_within}
use Rattle.afdx_frame.proofs.ListLemmas.{slice_get-within}
use Rattle.afdx_solve.specs.declared.delays.Delays.{Delays}
use Rattle.afdx_solve.specs.SolvedCascade.{AreAtMost}
use Rattle.afdx_solve.specs.declared.options.SolveOptions.{SolveOptions}
use Rattle.afdx_solve.specs.Raising.{Raises, AreTimesSettled, AreDelaysBy}
use Rattle.afdx_solve.proofs.AtLemmas.{link-at, tables-one, alike-link}
use Rattle.afdx_solve.proofs.RiseLemmas.{RowsRise, jitter_at-same, delay-rises}
use Rattle.afdx_solve.proofs.RaisingLemmas.{raises-then, rows-rise}

-- the first ones of a kind, as many as this, were raised, or have what they need
pub record AreRaised (o : SolveOptions) (Settled : List NamedRows → ℕ → Type 0) (old new : List NamedRows)
    (raised : Bool)
    (count : ℕ) : Type 0 where
  pub raises : Raises o old new raised
  pub settled : raised ≡ false → (i : ℕ) → i < count → Settled old i

module _ (o : SolveOptions) (Settled : List NamedRows → ℕ → Type 0) (old : List NamedRows) where
  pub raised-next : (now new : List NamedRows) (raised one both : Bool) (count : ℕ) → both ≡ raised || one
      → AreRaised o Settled old now raised count → Raises o now new one
      → (raised ≡ false → one ≡ false → Settled new count) → AreRaised o Settled old new both (count + 1)
  raised-next now new raised one both count is h raises settled =
      subst (λ b. AreRaised o Settled old new b (count + 1)) (sym is) (record {
        raises = raises-then o old now new raised one h.raises raises;
        settled = λ e i less. by raised one h raises settled e i less;
      })
    where
      at : (i : ℕ) → i < count + 1 → (i ≡ count → Settled old i) → (i < count → Settled old i) → Settled old i
      at i less here before = elim (cases_lt i count) [
        | inl below ↦ before below
        | inr past ↦ here (omega (arith, less, past))
      ]

      by : (raised one : Bool) → AreRaised o Settled old now raised count → Raises o now new one
          → (raised ≡ false → one ≡ false → Settled new count) → raised || one ≡ false → (i : ℕ) → i < count + 1
          → Settled old i
      by true one h raises settled e i less = absurd (cc e)
      by false one h raises settled e i less =
          at i less
          (λ same. subst (Settled old) (sym same)
          (subst (λ ss. Settled ss count) (raises.same e ∙ h.raises.same refl) (settled refl e)))
          (h.settled refl i)

-- of the rows of a switch
abbrev pub RowSettled : SolveOptions → ℕ → List NamedRows → ℕ → Type 0
RowSettled o k ss i = (t : Rows) (l : LinkRow) → tables_at ss k ≡ Some t → slice_get t.links i ≡ Some l
    → AreTimesSettled o ss t k l

pub rows-settled : (o : SolveOptions) (k : ℕ) (old now : List NamedRows) (raised : Bool) (count : ℕ) (u : Rows)
    → AreRaised o (RowSettled o k) old now raised count → tables_at old k ≡ Some u → length u.links ≤ count
    → raised ≡ false → (i : ℕ) → RowSettled o k now i
rows-settled o k old now raised count u h at all e i =
    subst (λ ss. RowSettled o k ss i) (sym (h.raises.same e))
    (λ t l at' row. let same = tables-one old k t u at' at in
    h.settled e i (omega (arith, slice_get_within t.links i l row, ap (λ (r : Rows). length r.links) same, all)) t l
    at' row)

-- ---- what is known of a switch, of one that is alike

module _ (a b : List NamedRows) (alike : AreAlike a b) (k : ℕ) where
  pub row-there : (t : Rows) → tables_at a k ≡ Some t → (i : ℕ) → i < length t.links → IsSome (link_at b k i)
  row-there t at i less =
      let l = slice_get-within t.links i less in
      let m = alike-link a b alike k i l.0 (link-at a k i t l.0 at l.1) in
      ap is_some m.1

  module _ (more : AreAtMost a b) (t u : Rows) (at : tables_at a k ≡ Some t) (at' : tables_at b k ≡ Some u) where
    rises : RowsRise t u
    rises = rows-rise a b alike more k t u at at'

    ends-same : length t.systems ≡ length u.systems
    ends-same = ap (λ (r : Rows). length r.systems) rises.bare

    pub jitters-stay : (jitters : List ℕ) → AreJitters t jitters → AreJitters u jitters
    jitters-stay jitters h = record {
      count = h.count;
      each = λ place less. h.each place (omega (arith, less, ends-same)) ∙ jitter_at-same t u rises place;
    }

    pub delays-below : (d : Delays) → AreDelaysBy (λ kept needed. kept ≡ needed) t d
        → AreDelaysBy (λ kept needed. kept ≤ needed) u d
    delays-below d h = record {
      high = h.high;
      low = h.low;
      each = λ class place less.
          omega (arith, h.each class place (omega (arith, less, ends-same)), delay-rises t u rises class place);
    }
