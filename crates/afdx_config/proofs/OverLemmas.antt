-- The lines over all switches, of a switch and of a row that stand there.
use Rattle.std.proofs.Common.{◌≡◌, ℕ, ◌+◌, ◌-◌, List, [], length, Some, slice_get, ap, ◌∙◌, option_and_then}
use Rattle.std.specs.Option.{option_map_or}
use Rattle.afdx_config.specs.Rows.{SystemRow, LinkRow}
use Rattle.afdx_config.specs.Switches.{NamedRows, system_lines, lines_of_system, systems_lines}
use Rattle.afdx_config.specs.Switches.{neighbour_lines, lines_of_neighbour, neighbours_lines}
use Rattle.afdx_config.specs.Switches.{start_lines, lines_of_start, starts_lines}
use Rattle.afdx_frame.specs.Lines.{each_from}

module _ (ss : List NamedRows) (k : ℕ) (s : NamedRows) (at : slice_get ss k ≡ Some s) where
  pub systems-at : systems_lines ss k ≡ each_from (system_lines ss k) 0 s.rows.own
  unfolding systems_lines
  systems-at = ap (λ o. option_map_or (λ s. each_from (system_lines ss k) 0 s.rows.own) o []) at

  pub neighbours-at : neighbours_lines ss k
      ≡ each_from (neighbour_lines ss k) s.rows.own (length s.rows.systems - s.rows.own)
  unfolding neighbours_lines
  neighbours-at = ap (λ o. option_map_or (λ s. each_from (neighbour_lines ss k) s.rows.own
      (length s.rows.systems - s.rows.own)) o []) at

  pub starts-at : starts_lines ss k ≡ each_from (start_lines ss k) 0 (length s.rows.links)
  unfolding starts_lines
  starts-at = ap (λ o. option_map_or (λ s. each_from (start_lines ss k) 0 (length s.rows.links)) o []) at

  module _ (i : ℕ) where
    pub system-at : (e : SystemRow) → slice_get s.rows.systems i ≡ Some e
        → system_lines ss k i ≡ lines_of_system ss k i e
    unfolding system_lines
    system-at e row =
        ap (λ o. option_map_or (lines_of_system ss k i) (option_and_then (λ s. slice_get s.rows.systems i) o) []) at
        ∙ ap (λ o. option_map_or (lines_of_system ss k i) o []) row

    pub neighbour-at : (e : SystemRow) → slice_get s.rows.systems i ≡ Some e
        → neighbour_lines ss k i ≡ lines_of_neighbour ss s.name k (i - s.rows.own + 1) e
    unfolding neighbour_lines
    neighbour-at e row =
        ap (λ o. option_map_or (λ s. option_map_or (lines_of_neighbour ss s.name k (i - s.rows.own + 1))
        (slice_get s.rows.systems i) []) o []) at
        ∙ ap (λ o. option_map_or (lines_of_neighbour ss s.name k (i - s.rows.own + 1)) o []) row

    pub start-at : (l : LinkRow) → slice_get s.rows.links i ≡ Some l
        → start_lines ss k i ≡ lines_of_start ss s.rows.own k i l
    unfolding start_lines
    start-at l row =
        ap (λ o. option_map_or (λ s. option_map_or (lines_of_start ss s.rows.own k i) (slice_get s.rows.links i) [])
        o []) at
        ∙ ap (λ o. option_map_or (lines_of_start ss s.rows.own k i) o []) row
