-- The lines of admission of a cascade, of a switch and of a row that stand there.
use Rattle.std.proofs.Common.{◌≡◌, ℕ, List, [], ◌∷◌, length, map, Option, Some, None, slice_get}
use Rattle.std.proofs.Common.{refl, ap, ◌∙◌, Bool, true, false, if◌then◌else◌}
use Rattle.std.specs.Option.{option_map, option_map_or}
use Rattle.afdx_config.specs.Rows.{LinkRow, Rows}
use Rattle.afdx_config.specs.Switches.{NamedRows, named_rows}
use Rattle.afdx_frame.specs.Lines.{Line, first_false, each_from}
use Rattle.afdx_frame.proofs.ListLemmas.{slice_get-within}
use Rattle.afdx_admit.specs.declared.fault.AdmitFault.{AdmitFault}
use Rattle.afdx_admit.specs.declared.cascade_fault.SwitchFault.TheVariants.{Own}
use Rattle.afdx_admit.specs.Lines.{lines}
use Rattle.afdx_admit.specs.Cascade.{fault_at, own_line, own_lines, hops_lines, hop_lines, lines_of_row}
use Rattle.afdx_admit.specs.Cascade.{readers_lines, reader_lines, lines_of_readers, RowAt}
use Rattle.afdx_admit.specs.AtSwitch.{tables_at, IsRowAt}
use Rattle.afdx_admit.specs.Sums.{CanSend}

-- what stands at a place, by its parts
pub with_tables : (o : Option NamedRows) (t : Rows) → option_map (λ s. s.rows) o ≡ Some t
    → (name : List ℕ) × (o ≡ Some (named_rows name t))
with_tables None t e = absurd (cc e)
with_tables (Some s) t e =
    let same : s.rows ≡ t = cc in
    (s.name, ap (λ r. Some (named_rows s.name r)) same)

pub with_name : (o : Option NamedRows) (name : List ℕ) (t : Rows) → option_map (λ s. s.name) o ≡ Some name
    → option_map (λ s. s.rows) o ≡ Some t → o ≡ Some (named_rows name t)
with_name None name t d e = absurd (cc e)
with_name (Some s) name t d e =
    let same : s.rows ≡ t = cc in
    let same_name : s.name ≡ name = cc in
    ap (λ r. Some (named_rows s.name r)) same ∙ ap (λ n. Some (named_rows n t)) same_name

pub row_can_send : (ss : List NamedRows) (r : RowAt) → IsRowAt ss r → CanSend r.row
row_can_send ss r h =
    let s = slice_get-within ss r.switch h.switch in
    (length s.0.rows.systems, h.row s.0.rows (ap (option_map (λ s. s.rows)) s.1))

-- the first false of lines that are mapped
pub own_first : (k : ℕ) (ls : List (Line AdmitFault)) → first_false (map (own_line k) ls)
    ≡ option_map (λ fault. fault_at k (Own fault)) (first_false ls)
unfolding first_false
own_first k [] = refl
own_first k (l ∷ ls) = by l.holds (own_first k ls)
  where
    by : (b : Bool) → first_false (map (own_line k) ls) ≡ option_map (λ fault. fault_at k (Own fault)) (first_false ls)
        → (if b then first_false (map (own_line k) ls) else Some (fault_at k (Own l.fault)))
        ≡ option_map (λ fault. fault_at k (Own fault)) (if b then first_false ls else Some l.fault)
    by true e = e
    by false e = refl

module _ (ss : List NamedRows) (k : ℕ) (s : NamedRows) (at : slice_get ss k ≡ Some s) where
  pub owns-at : own_lines ss k ≡ map (own_line k) (lines s.rows)
  unfolding own_lines
  owns-at = ap (λ o. option_map_or (λ s. map (own_line k) (lines s.rows)) o []) at

  pub hops-at : hops_lines ss k ≡ each_from (hop_lines ss k) 0 (length s.rows.links)
  unfolding hops_lines
  hops-at = ap (λ o. option_map_or (λ s. each_from (hop_lines ss k) 0 (length s.rows.links)) o []) at

  pub readers-at : readers_lines ss k ≡ each_from (reader_lines ss k) 0 (length s.rows.links)
  unfolding readers_lines
  readers-at = ap (λ o. option_map_or (λ s. each_from (reader_lines ss k) 0 (length s.rows.links)) o []) at

  module _ (i : ℕ) (l : LinkRow) (row : slice_get s.rows.links i ≡ Some l) where
    pub hop-at : hop_lines ss k i ≡ lines_of_row ss k s.rows l
    unfolding hop_lines
    hop-at =
        ap (λ o. option_map_or (λ s. option_map_or (lines_of_row ss k s.rows) (slice_get s.rows.links i) []) o []) at
        ∙ ap (λ o. option_map_or (lines_of_row ss k s.rows) o []) row

    pub reader-at : reader_lines ss k i ≡ lines_of_readers ss k s l
    unfolding reader_lines
    reader-at =
        ap (λ o. option_map_or (λ s. option_map_or (lines_of_readers ss k s) (slice_get s.rows.links i) []) o []) at
        ∙ ap (λ o. option_map_or (lines_of_readers ss k s) o []) row

-- by the tables alone
pub owns-of : (ss : List NamedRows) (k : ℕ) (t : Rows) → tables_at ss k ≡ Some t
    → own_lines ss k ≡ map (own_line k) (lines t)
owns-of ss k t at =
    let s = with_tables (slice_get ss k) t at in owns-at ss k (named_rows s.0 t) s.1
