-- The lines of moments before a time aren't changed by frames that come at it or later.
use Rattle.std.proofs.Common.{◌≡◌, ℕ, ◌≤◌, Bool, true, false, List, [], ◌∷◌, ◌++◌, zero, suc, map, length, refl, sym, ap, ap₂, ◌∙◌, subst}
use Rattle.std.proofs.Common.{Option, Some, None}
use Rattle.std.proofs.lemmas.Bool.{le-ltb}
use Rattle.std.proofs.lemmas.List.Elements.{filter-append, recursion_from_All}
use Rattle.std.specs.List.{AllByRecursion}
use Rattle.std.specs.List.Sorted.{IsPermutation}
use Rattle.std.specs.Prelude.{filter, if◌then◌else◌}
use Rattle.afdx_frame.specs.declared.link.Side.TheVariants.{A, B}
use Rattle.afdx_lawful.specs.Judged.{singles}
use Rattle.afdx_lawful.specs.Partners.{Waiting}
use Rattle.afdx_lawful.specs.Sources.{Came, Source}
use Rattle.afdx_police.specs.Arrival.{Arrival}
use Rattle.afdx_senders.specs.AllLines.{all_lines, all_singles, found_when, is_early, lines_coming, lines_when, single_of, singles_below, singles_in}
use Rattle.afdx_senders.specs.Lines.{FoundBy, Line, lines_at}
use Rattle.afdx_senders.specs.SenderLaws.{EarlyLinesStay, WhatIsToldIsEarly}
use Rattle.afdx_senders.specs.Setups.{Setup, came_from, ending, is_of, own_frames, source_at, whose}
use Rattle.afdx_senders.proofs.ListLemmas.{filter_map}
use Rattle.afdx_senders.proofs.WaitingLemmas.{is_over, same_singles}

-- of a source's frames that waited in vain, those that were told before a time
pub early_of : (s : Source) (before : Option ℕ) (xs : List Came) →
    filter (is_early before) (singles_in (Some s) xs)
    ≡ map (single_of s) (filter (is_over s before) (singles s A xs) ++ filter (is_over s before) (singles s B xs))
early_of s before xs =
    filter_map (is_early before) (single_of s) (singles s A xs ++ singles s B xs)
    ∙ ap (map (single_of s)) (filter-append (is_over s before) (singles s A xs) (singles s B xs))

module _ (time : ℕ) where
  abbrev early : Line → Bool
  early x = is_early (Some time) x

  one_source : (o : Option Source) (x : Came) (xs : List Came) → time ≤ x.time →
      filter early (singles_in o (x ∷ xs)) ≡ filter early (singles_in o xs)
  one_source None x xs late = refl
  one_source (Some s) x xs late =
      early_of s (Some time) (x ∷ xs)
      ∙ ap₂ (λ (a b : List Waiting). map (single_of s) (a ++ b)) (same_singles s time x late A xs)
      (same_singles s time x late B xs)
      ∙ sym (early_of s (Some time) xs)

  one_place : (z : Setup) (place : ℕ) (x : Arrival) (xs : List Arrival) → time ≤ x.time →
      filter early (singles_in (source_at z place) (own_frames z place (x ∷ xs)))
      ≡ filter early (singles_in (source_at z place) (own_frames z place xs))
  unfolding own_frames
  one_place z place x xs late = by (is_of place (whose z x))
    where
      old : List Arrival
      old = filter (λ y. is_of place (whose z y)) xs

      by : (b : Bool) → filter early (singles_in (source_at z place) (map came_from (if b then x ∷ old else old)))
          ≡ filter early (singles_in (source_at z place) (map came_from old))
      by true = one_source (source_at z place) (came_from x) (map came_from old) late
      by false = refl

  below : (z : Setup) (x : Arrival) (xs : List Arrival) (n : ℕ) → time ≤ x.time →
      filter early (singles_below z (x ∷ xs) n) ≡ filter early (singles_below z xs n)
  unfolding singles_below
  below z x xs zero late = refl
  below z x xs (suc n) late =
      filter-append early (singles_in (source_at z n) (own_frames z n (x ∷ xs))) (singles_below z (x ∷ xs) n)
      ∙ ap₂ (λ (a b : List Line). a ++ b) (one_place z n x xs late) (below z x xs n late)
      ∙ sym (filter-append early (singles_in (source_at z n) (own_frames z n xs)) (singles_below z xs n))

  -- of those that waited in vain
  pub early_singles : (z : Setup) (x : Arrival) (xs : List Arrival) → time ≤ x.time →
      filter early (all_singles z (x ∷ xs)) ≡ filter early (all_singles z xs)
  early_singles z x xs late = below z x xs (length z.tables.links) late

  -- of one that came
  none_early : (x : Arrival) (o : Option FoundBy) → time ≤ x.time → filter early (lines_at x o) ≡ []
  none_early x None late = refl
  none_early x (Some found) late =
      ap (λ (b : Bool). if b then lines_at x (Some found) else []) (le-ltb x.time time late)

  pub early_coming : (z : Setup) (x : Arrival) (xs : List Arrival) → time ≤ x.time →
      filter early (lines_coming z (x ∷ xs)) ≡ filter early (lines_coming z xs)
  unfolding lines_coming lines_when
  early_coming z x xs late =
      filter-append early (lines_when z xs x) (lines_coming z xs)
      ∙ ap (λ (l : List Line). l ++ filter early (lines_coming z xs))
      (none_early x (found_when z xs x (whose z x)) late)

  one_more : (z : Setup) (x : Arrival) (xs : List Arrival) → time ≤ x.time →
      filter early (all_lines z (x ∷ xs)) ≡ filter early (all_lines z xs)
  unfolding all_lines
  one_more z x xs late =
      filter-append early (lines_coming z (x ∷ xs)) (all_singles z (x ∷ xs))
      ∙ ap₂ (λ (a b : List Line). a ++ b) (early_coming z x xs late) (early_singles z x xs late)
      ∙ sym (filter-append early (lines_coming z xs) (all_singles z xs))

  pub early_more : (z : Setup) (more xs : List Arrival) → AllByRecursion (λ x. time ≤ x.time) more →
      filter early (all_lines z (more ++ xs)) ≡ filter early (all_lines z xs)
  early_more z [] xs h = refl
  early_more z (x ∷ more) xs h = one_more z x (more ++ xs) h.0 ∙ early_more z more xs h.1

  pub singles_more : (z : Setup) (more xs : List Arrival) → AllByRecursion (λ x. time ≤ x.time) more →
      filter early (all_singles z (more ++ xs)) ≡ filter early (all_singles z xs)
  singles_more z [] xs h = refl
  singles_more z (x ∷ more) xs h = early_singles z x (more ++ xs) h.0 ∙ singles_more z more xs h.1

pub early_lines_stay : EarlyLinesStay
early_lines_stay z time more xs from =
    early_more time z more xs (recursion_from_All (λ x. time ≤ x.time) more from)

pub told_early : WhatIsToldIsEarly
told_early z said time xs told before until more ends from =
    let is = before until ends in
    let e = ending until z in
    record {
      are =
          subst (λ (l : List Line). IsPermutation told l)
          (sym (early_more time e more xs (recursion_from_All (λ x. time ≤ x.time) more from))) is.are;
      in_order = is.in_order;
    }
