-- The faults of the false lines of a cascade.
use Rattle.std.proofs.Common.{◌≡◌, ℕ, nat_lt, Bool, true, false, not, List, [], ◌∷◌, map, filter, cond}
use Rattle.std.proofs.Common.{Some, if◌then◌else◌, refl, ap, ◌∙◌}
use Rattle.afdx_config.specs.Rows.{LinkRow, Rows}
use Rattle.afdx_config.specs.Switches.{NamedRows}
use Rattle.afdx_frame.specs.Lines.{Line, false_lines}
use Rattle.afdx_frame.proofs.FalseLinesLemmas.{false_lines-holds}
use Rattle.afdx_admit.specs.declared.fault.AdmitFault.{AdmitFault}
use Rattle.afdx_admit.specs.declared.cascade_fault.CascadeFault.{CascadeFault}
use Rattle.afdx_admit.specs.declared.cascade_fault.SwitchFault.TheVariants.{Own}
use Rattle.afdx_admit.specs.Cascade.{RowAt, row_at, row_before, way_latency, fault_at, own_line}
use Rattle.afdx_admit.specs.Cascade.{fed_line, lines_of_hop, lines_if_fed, lines_of_row}

-- the faults of a switch by its own tables, at their place in the cascade
abbrev pub own_fault : ℕ → AdmitFault → CascadeFault
own_fault k fault = fault_at k (Own fault)

pub own-false : (k : ℕ) (ls : List (Line AdmitFault))
    → false_lines (map (own_line k) ls) ≡ map (own_fault k) (false_lines ls)
unfolding false_lines
own-false k [] = refl
own-false k (l ∷ ls) = by l.holds (own-false k ls)
  where
    by : (b : Bool) → false_lines (map (own_line k) ls) ≡ map (own_fault k) (false_lines ls)
        → map (λ m. m.fault) (cond (not b) (own_line k l ∷ filter (λ m. not m.holds) (map (own_line k) ls))
        (filter (λ m. not m.holds) (map (own_line k) ls)))
        ≡ map (own_fault k) (map (λ m. m.fault) (cond (not b) (l ∷ filter (λ m. not m.holds) ls)
        (filter (λ m. not m.holds) ls)))
    by true e = e
    by false e = ap (λ fs. own_fault k l.fault ∷ fs) e

-- the lines of a row
module _ (ss : List NamedRows) (k : ℕ) (t : Rows) (l : LinkRow) where
  abbrev here : RowAt
  here = row_at k l

  pub row-sent : nat_lt l.from t.own ≡ true → lines_of_row ss k t l ≡ []
  row-sent own = ap (λ b. if b then [] else lines_if_fed k t l (row_before ss here) (way_latency ss here)) own

  pub row-fed : nat_lt l.from t.own ≡ false → (before : RowAt) → row_before ss here ≡ Some before
      → (sum : ℕ) → way_latency ss here ≡ Some sum
      → false_lines (lines_of_row ss k t l) ≡ false_lines (lines_of_hop k t before.row l sum)
  row-fed past before stands sum way =
      ap false_lines
      (ap (λ b. if b then [] else lines_if_fed k t l (row_before ss here) (way_latency ss here)) past
      ∙ ap (λ o. lines_if_fed k t l o (way_latency ss here)) stands
      ∙ ap (λ o. lines_if_fed k t l (Some before) o) way)
      ∙ false_lines-holds (fed_line true k l) (lines_of_hop k t before.row l sum) refl
