-- The lines of the neighbours to which a row goes, one after the other.
use Rattle.std.proofs.Common.{◌≡◌, ℕ, ◌+◌, Bool, true, false, not, ◌&&◌, nat_le, List, [], ◌∷◌}
use Rattle.std.proofs.Common.{map, filter, drop, cond, Some, slice_get, refl, ap, ◌∙◌, length, ◌<◌}
use Rattle.std.proofs.Common.{slice_index_or, option_map, subst, ◌≤◌, arith}
use Rattle.std.proofs.Math.ListN.{drop_of_length-le}
use Rattle.std.proofs.lemmas.List.{length-map}
use Rattle.std.proofs.lemmas.Option.{slice_get-map, slice_get-get_or}
use Rattle.afdx_config.specs.declared.rows.SystemId.{SystemId}
use Rattle.afdx_config.specs.Rows.{LinkRow, system_places}
use Rattle.afdx_config.specs.Switches.{NamedRows}
use Rattle.afdx_frame.specs.Lines.{Line, false_lines}
use Rattle.afdx_frame.proofs.FalseLinesLemmas.{false_lines-holds, false_lines-fails}
use Rattle.afdx_admit.specs.declared.cascade_fault.CascadeFault.{CascadeFault}
use Rattle.afdx_admit.specs.Cascade.{reads, read_line}
use Rattle.afdx_admit.specs.AtSwitch.{is_unread}
use Rattle.afdx_admit.proofs.LateLemmas.{drop_next}

-- the places that a row names, as its list has them
pub place-at : (items ids : List SystemId) (i : ℕ) (d : SystemId) → items ≡ ids → i < length items
    → slice_get (system_places ids) i ≡ Some (slice_index_or items i d).0
place-at items ids i d same within =
    subst (λ (xs : List SystemId). slice_get (system_places xs) i ≡ Some (slice_index_or items i d).0) same
    (slice_get-map (λ (id : SystemId). id.0) items i
    ∙ ap (option_map (λ (id : SystemId). id.0)) (slice_get-get_or items i d within))

pub no-place-past : (items ids : List SystemId) (i : ℕ) → items ≡ ids → length items ≤ i → drop i (system_places ids)
    ≡ []
no-place-past items ids i same past =
    drop_of_length-le (system_places ids)
    (omega (arith, past, ap (length {A = SystemId}) same, length-map ids (λ (id : SystemId). id.0)))

module _ (ss : List NamedRows) (k : ℕ) (s : NamedRows) (l : LinkRow) where
  -- of some of the places to which it goes
  abbrev pub lines_to : List ℕ → List (Line CascadeFault)
  lines_to places = map (read_line ss k s l) (filter (λ place. nat_le s.rows.own place) places)

  abbrev fault_of : ℕ → CascadeFault
  fault_of place = (read_line ss k s l place).fault

  read-false : (place : ℕ) (rest : List ℕ) (b : Bool) → b && not (reads ss s l place) ≡ false
      → false_lines (map (read_line ss k s l) (cond b (place ∷ filter (λ place. nat_le s.rows.own place) rest)
      (filter (λ place. nat_le s.rows.own place) rest))) ≡ false_lines (lines_to rest)
  read-false place rest true h = false_lines-holds (read_line ss k s l place) (lines_to rest)
      (double (reads ss s l place) h)
    where
      double : (b : Bool) → not b ≡ false → b ≡ true
      double true h = refl
      double false h = absurd cc
  read-false place rest false h = refl

  unread-false : (place : ℕ) (rest : List ℕ) (b : Bool) → b && not (reads ss s l place) ≡ true
      → false_lines (map (read_line ss k s l) (cond b (place ∷ filter (λ place. nat_le s.rows.own place) rest)
      (filter (λ place. nat_le s.rows.own place) rest))) ≡ fault_of place ∷ false_lines (lines_to rest)
  unread-false place rest true h = false_lines-fails (read_line ss k s l place) (lines_to rest)
      (single (reads ss s l place) h)
    where
      single : (b : Bool) → not b ≡ true → b ≡ false
      single true h = absurd cc
      single false h = refl
  unread-false place rest false h = absurd cc

  -- the places from one on are still to be looked at
  module _ (places : List ℕ) (i place : ℕ) (at : slice_get places i ≡ Some place) where
    pub false-read : is_unread ss s l place ≡ false
        → false_lines (lines_to (drop i places)) ≡ false_lines (lines_to (drop (i + 1) places))
    false-read read = ap (λ ps. false_lines (lines_to ps)) (drop_next places i place at)
        ∙ read-false place (drop (i + 1) places) (nat_le s.rows.own place) read

    pub false-unread : is_unread ss s l place ≡ true
        → false_lines (lines_to (drop i places)) ≡ fault_of place ∷ false_lines (lines_to (drop (i + 1) places))
    false-unread unread = ap (λ ps. false_lines (lines_to ps)) (drop_next places i place at)
        ∙ unread-false place (drop (i + 1) places) (nat_le s.rows.own place) unread
